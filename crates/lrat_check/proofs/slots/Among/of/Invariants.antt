use Rattle.std.proofs.Common.{take}
use Rattle.lrat_check.specs.Slots.{AreSlots}
use Rattle.lrat_check.proofs.slots.Among.of.Given as goal

abbrev pub invariant-loop-lit : goal.invariant-loop-lit
invariant-loop-lit l = AreSlots l.slots (take l.lit-index l.lits)
