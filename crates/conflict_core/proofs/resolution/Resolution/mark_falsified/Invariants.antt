use Rattle.std.proofs.Common.{◌≡◌, length, take}
use Rattle.cdcl_theory.specs.Trails.{falsified_at}
use Rattle.conflict_core.specs.Markings.{AreMarked, IsListed}
use Rattle.conflict_core.proofs.resolution.Resolution.mark_falsified.Given as goal

abbrev pub invariant-loop-lit : goal.invariant-loop-lit
invariant-loop-lit l = record {
  marked : AreMarked (falsified_at l.trail) (take l.lit-index l.lits) l.initial.self.marks l.self.marks;
  listed : IsListed l.trail.vars l.self.marks l.self.touched.items;
  hints : l.self.hints ≡ l.initial.self.hints;
  room : length l.self.marks ≡ length l.initial.self.marks;
}
