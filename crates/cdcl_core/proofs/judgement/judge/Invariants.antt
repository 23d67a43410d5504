use Rattle.cdcl_theory.specs.Trails.{falsified_at}
use Rattle.cdcl_core.proofs.Judging.{HasSeen}
use Rattle.cdcl_core.proofs.judgement.judge.Given as goal

abbrev pub invariant-loop-lit : goal.invariant-loop-lit
invariant-loop-lit l = HasSeen (falsified_at l.trail) l.lits l.lit-index l.free
