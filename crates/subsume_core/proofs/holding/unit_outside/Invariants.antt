use Rattle.sat_theory.specs.Holding.{among}
use Rattle.subsume_core.proofs.Chains.{HasSeen}
use Rattle.subsume_core.proofs.holding.unit_outside.Given as goal

abbrev pub invariant-loop-lit : goal.invariant-loop-lit
invariant-loop-lit l = HasSeen (among l.set) l.lits l.lit-index l.found
