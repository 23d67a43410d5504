use Rattle.std.specs.Prelude.{All}
use Rattle.std.proofs.Common.{ap, length, sym, subst, ◌∙◌}
use Rattle.net_theory.specs.declared.data.Gate.{Gate}
use Rattle.net_theory.specs.Document.{Document}
use Rattle.net_theory.specs.Circuit.{Circuit}
use Rattle.blif_core.specs.Spelling.{HasInit}
use Rattle.blif_core.specs.WrittenLaws.{written_init}
use Rattle.blif_core.specs.Blif.{blif_format}
use Rattle.improve_windows.specs.ImprovingLaws.{left_proper, better}
use Rattle.improve_windows.proofs.circuits.improve_written.Goals as goal

pub costed-requires : goal.costed-requires
costed-requires g c =
    left_proper c.args.settings c.args.circuit c.in_ok-circuit.field-0.circuit c.in_ok-circuit.field-0.settled
    c.in_ok-circuit.field-0.undecided.items c.in_ok-circuit.ensures.circuit c.requires.proper
    c.in_ok-circuit.ensures.left

pub returns-clause-inits : goal.returns-clause-inits
returns-clause-inits g c =
    let proper = left_proper c.args.settings c.args.circuit c.in_ok-circuit.field-0.circuit
    c.in_ok-circuit.field-0.settled c.in_ok-circuit.field-0.undecided.items c.in_ok-circuit.ensures.circuit
    c.requires.proper c.in_ok-circuit.ensures.left in
    subst (λ (d : Document). All HasInit d.latches) (sym c.in_ok-document.ensures.document) (written_init c.in_ok-circuit.field-0.circuit proper)

pub returns-clause-better : goal.returns-clause-better
returns-clause-better g c =
    better blif_format c.args.settings c.args.circuit c.in_ok-circuit.field-0.circuit
    c.in_ok-circuit.field-0.circuit.net _ _ _ _ c.requires.proper c.in_ok-circuit.ensures.circuit
    c.in_ok-circuit.ensures.left
    (ap (length {A = Gate}) c.gates.ensures.gates ∙ ap (λ (x : Circuit). length x.net.gates) c.circuit.view_is) c.in_ok-document.ensures.cost c.in_ok-document.ensures.cheap
