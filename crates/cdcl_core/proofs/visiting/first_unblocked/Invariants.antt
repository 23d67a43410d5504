use Rattle.cdcl_core.specs.Visiting.{AreTrue}
use Rattle.cdcl_core.proofs.visiting.first_unblocked.Given as goal

abbrev pub invariant-loop-index : goal.invariant-loop-index
invariant-loop-index l = AreTrue l.trail l.watches l.from l.index
