use Rattle.std.proofs.Common.{arith}
use Rattle.window_core.specs.ExpandingLaws.{no_gate, no_leaf, last_is_gate}
use Rattle.window_core.proofs.fanin_cones.last_gate.Goals as goal

pub returns-in_default-clause-none : goal.returns-in_default-clause-none
returns-in_default-clause-none c = no_leaf c.args.net.now c.args.leaves.now c.in_default.ensures.cases

pub returns-then-last-sources-clause-none : goal.returns-then-last-sources-clause-none
returns-then-last-sources-clause-none c =
    no_gate c.args.net.now c.args.leaves.now c.in-Some._prefix.now c.in-Some.last.now c.requires.rising c.in-Some.ensures.cases.0 (omega (arith, c.if-last-sources.true, c.sources.ensures.sources))

pub returns-clause-some : goal.returns-clause-some
returns-clause-some c = (
  c.in-Some._prefix.now,
  c.in-Some.ensures.cases.0,
  last_is_gate c.args.net.now c.args.leaves.now c.in-Some._prefix.now c.in-Some.last.now c.in-Some.ensures.cases.0
      c.requires.within (omega (arith, c.if-last-sources.false, c.sources.ensures.sources)),
)
