use Rattle.clause_core.proofs.Marks.{cleared_all}
use Rattle.clause_core.proofs.list.clear_seen.Goals as goal

pub returns : goal.returns
returns c = cleared_all c.args.lits.now c.loop-lit.lit-index c.args.seen.now c.loop-lit.seen c.requires c.loop-lit.invariant c.loop-lit-test.false
