use Rattle.std.proofs.Common.{◌∙◌, sym}
use Rattle.window_core.specs.GrowingLaws.{taken_gates, sought_none, sought_some}
use Rattle.window_core.proofs.growing.next_gate.Goals as goal

pub greatest-best-requires : goal.greatest-best-requires
greatest-best-requires c = taken_gates c.args.net.now c.args.root c.args.partner c.args.taken.now c.requires

pub returns-then-best-sources-clause-none : goal.returns-then-best-sources-clause-none
returns-then-best-sources-clause-none c =
    sought_none c.args.net.now c.args.root c.args.partner c.args.taken.now c.bound_of-bound.result
    c.greatest-best.result c.sources.ensures.net c.requires c.bound_of-bound.ensures c.greatest-best.ensures
    (c.if-best-sources.true ∙ c.sources.ensures.sources)

pub returns-clause-some : goal.returns-clause-some
returns-clause-some c =
    sought_some c.args.net.now c.args.root c.args.partner c.args.taken.now c.bound_of-bound.result
    c.greatest-best.result c.sources.ensures.net c.requires c.bound_of-bound.ensures c.greatest-best.ensures
    (λ e. c.if-best-sources.false (e ∙ sym c.sources.ensures.sources))
