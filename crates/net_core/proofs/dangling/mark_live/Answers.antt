use Rattle.std.proofs.Common.{ℕ, Bool, List, ◌∙◌, ap}
use Rattle.net_theory.specs.declared.data.Sig.{Sig}
use Rattle.net_theory.specs.Reach.{reach}
use Rattle.net_core.specs.Marks.{no_marks, sink_marks}
use Rattle.net_core.proofs.DanglingGates.{sink_marks-sinks}
use Rattle.net_core.proofs.dangling.mark_live.Goals as goal

pub returns : goal.returns
returns c =
    c.mark_reached.ensures
    ∙ ap (reach c.args.net.now) (c.mark_sinks.ensures
    ∙ ap (λ (m : ℕ → Bool). sink_marks m c.sinks.result.now) c.requires.none
    ∙ ap (λ (ss : List Sig). sink_marks no_marks ss) c.sinks.ensures.sinks
    ∙ sink_marks-sinks c.args.net.now)
