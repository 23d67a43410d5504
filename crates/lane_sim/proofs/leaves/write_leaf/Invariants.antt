use Rattle.lane_sim.specs.Rows.{IsRowWritten}
use Rattle.chain_theory.specs.Operator.{digit}
use Rattle.lane_sim.proofs.leaves.write_leaf.Given as goal

abbrev pub invariant-loop-j : goal.invariant-loop-j
invariant-loop-j l = IsRowWritten (λ row. digit row l.k) l.start l.j l.initial.lanes l.lanes
