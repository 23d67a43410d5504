use Rattle.std.proofs.Common.{ap, ◌∙◌}
use Rattle.net_theory.specs.Circuit.{Circuit}
use Rattle.equiv_values.specs.DifferingLaws.{room, differ_under, named}
use Rattle.equiv_values.proofs.differing.told_difference.Goals as goal

pub spelled_bits-requires : goal.spelled_bits-requires
spelled_bits-requires c =
    room c.args.first.now c.args.second.now c.args.text.now c.sources-count.result c.requires.differ
    (c.sources-count.ensures.sources ∙ ap (λ (k : Circuit). k.net.sources) c.first.view_is)

pub told_under-requires-clause-differ : goal.told_under-requires-clause-differ
told_under-requires-clause-differ c =
    differ_under c.args.first.now c.args.second.now c.args.text.now c.in_ok-bits.bits.items c.deref.result.now
    c.sources-count.result c.requires.differ (c.sources-count.ensures.sources ∙ ap (λ (k : Circuit). k.net.sources) c.first.view_is) c.in_ok-bits.ensures c.deref.ensures.value

pub returns : goal.returns
returns c =
    named c.args.first.now c.args.second.now c.args.text.now c.in_ok-told.told.items c.in_ok-bits.bits.items
    c.deref.result.now c.sources-count.result c.requires.differ (c.sources-count.ensures.sources ∙ ap (λ (k : Circuit). k.net.sources) c.first.view_is) c.in_ok-bits.ensures
    c.deref.ensures.value c.in_ok-told.ensures
