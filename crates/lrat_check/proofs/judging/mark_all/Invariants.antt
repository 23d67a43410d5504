use Rattle.std.proofs.Common.{◌≡◌, take, length}
use Rattle.sat_theory.specs.Holding.{among}
use Rattle.lrat_check.specs.LiteralMarks.{marked}
use Rattle.lrat_check.proofs.judging.mark_all.Given as goal

abbrev pub invariant-loop-lit : goal.invariant-loop-lit
invariant-loop-lit l = record {
  set : marked l.marks ≡ among (take l.lit-index l.lits);
  room : length l.marks.stamps ≡ length l.initial.marks.stamps;
}
