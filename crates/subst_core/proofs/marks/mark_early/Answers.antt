use Rattle.std.proofs.Common.{ℕ, Bool, ◌∙◌, ap}
use Rattle.net_theory.specs.Reach.{reach}
use Rattle.subst_core.specs.Placing.{with_nodes}
use Rattle.subst_core.proofs.Marking.{nodes_alone}
use Rattle.subst_core.proofs.marks.mark_early.Goals as goal

pub returns : goal.returns
returns c =
    c.mark_reached.ensures
    ∙ ap (reach c.args.net.now) (c.mark_nodes.ensures
    ∙ ap (λ (m : ℕ → Bool). with_nodes m c.args.nodes.now) c.requires.none
    ∙ nodes_alone c.args.nodes.now)
