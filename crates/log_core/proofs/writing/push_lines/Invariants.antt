use Rattle.std.proofs.Common.{◌≡◌, ◌++◌, length}
use Rattle.std.specs.List.{flat_map}
use Rattle.lrat_text.specs.Spelling.{line_text}
use Rattle.log_core.specs.Rows.{BeginsAs, IsSplit, lines_in}
use Rattle.log_core.proofs.writing.push_lines.Given as goal

abbrev pub invariant-loop-head : goal.invariant-loop-head
invariant-loop-head l = record {
  all : l.out.items ++ flat_map line_text (lines_in l.heads_left l.left) ≡ l.initial.out.items ++ flat_map line_text (lines_in l.heads l.bytes);
  split : IsSplit l.heads_left l.left;
  begins : BeginsAs l.initial.out.items l.out.items;
}

abbrev pub decreases-loop-head : goal.decreases-loop-head
decreases-loop-head l = length l.heads_left
