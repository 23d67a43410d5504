use Rattle.std.proofs.Common.{ap, ◌∙◌}
use Rattle.net_theory.specs.Net.{bit_of, sink_values}
use Rattle.net_theory.specs.Circuit.{Circuit}
use Rattle.equiv_values.specs.DifferingLaws.{never_same}
use Rattle.equiv_values.proofs.differing.told_under.Goals as goal

pub told_values-requires-clause-differ : goal.told_values-requires-clause-differ
told_values-requires-clause-differ c =
    never_same c.args.first.now c.args.second.now c.args.bits.now _ _ _ _ c.requires.differ (c.in_ok-ones.ensures
    ∙ ap (λ (k : Circuit). sink_values k.net (bit_of c.args.bits.now)) c.first.view_is)
    (c.in_ok-others.ensures
    ∙ ap (λ (k : Circuit). sink_values k.net (bit_of c.args.bits.now)) c.second.view_is) c.deref.ensures.value c.deref-2.ensures.value
