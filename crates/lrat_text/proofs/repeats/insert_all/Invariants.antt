use Rattle.std.proofs.Common.{take}
use Rattle.lrat_text.specs.Seen.{HasVariables}
use Rattle.lrat_text.proofs.repeats.insert_all.Given as goal

abbrev pub invariant-loop-lit : goal.invariant-loop-lit
invariant-loop-lit l = HasVariables l.seen (take l.lit-index l.lits)
