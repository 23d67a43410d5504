use Rattle.std.proofs.Common.{ℕ, Bool, not, ◌∙◌, ap, arith}
use Rattle.net_core.specs.Marks.{set_of}
use Rattle.window_theory.specs.Nodes.{among}
use Rattle.subst_core.proofs.Marking.{not_or}
use Rattle.subst_core.proofs.marks.mark_others.Goals as goal

pub returns : goal.returns
returns c p low =
    c.turn.ensures p (omega (arith, low, c.mark_nodes.auto.marks))
    ∙ ap (λ (m : ℕ → Bool). not (m p)) c.mark_nodes.ensures
    ∙ not_or (among c.args.nodes.now p) (set_of c.args.marks.now p)
