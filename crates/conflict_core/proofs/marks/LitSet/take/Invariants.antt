use Rattle.std.proofs.Common.{◌≡◌, length, take}
use Rattle.conflict_core.specs.Markings.{AreGathered}
use Rattle.conflict_core.proofs.marks.LitSet.take.Given as goal

abbrev pub invariant-loop-lit : goal.invariant-loop-lit
invariant-loop-lit l = record {
  room : length l.self ≡ length l.initial.self;
  gathered : AreGathered (take l.lit-index l.lits) l.initial.self l.self l.gathered.items;
}
