use Rattle.cdcl_core.specs.Reduction.{NoneImplied}
use Rattle.cdcl_core.proofs.reduction.has_implied.Given as goal

abbrev pub invariant-loop-index : goal.invariant-loop-index
invariant-loop-index l = NoneImplied l.trail l.lits l.index l.id
