-- Controls that tables drive.
use Rattle.std.proofs.Common.{◌≡◌, List, [], ◌∷◌, Some, refl, ap, ◌∙◌}
use Rattle.std.specs.Prelude.{if◌then◌else◌}
use Rattle.std.proofs.lemmas.Grind.{common_steps}
use Rattle.net_theory.specs.Document.{Name, has}
use Rattle.net_theory.specs.Naming.{each_once}
use Rattle.net_core.specs.declared.error.NetError.TheVariants.{NotSupported}
use Rattle.net_document.specs.OnceLaws.{has_all_once}
use Rattle.blif_text.specs.Statements.{Control, control_fault}

-- only whether a name is driven counts, not how often
pub control_fault-once : (ns : List Name) (cs : List Control) → control_fault (each_once [] ns) cs ≡ control_fault ns cs
unfolding control_fault
control_fault-once ns [] = refl
control_fault-once ns (c ∷ cs) =
    ap (λ b. if b then Some (NotSupported c.line c.name) else control_fault (each_once [] ns) cs) (has_all_once ns c.name)
    ∙ ap (λ r. if has ns c.name then Some (NotSupported c.line c.name) else r) (control_fault-once ns cs)

pub ruleset controls = (common_steps, control_fault-once)
