use Rattle.std.proofs.Common.{◌≡◌, ◌-◌, length}
use Rattle.text_core.specs.Lines.{lines_of}
use Rattle.equiv_run.specs.Split.{split_from, split_of}
use Rattle.equiv_run.specs.Scanning.{IsScanned}
use Rattle.equiv_run.proofs.splitting.split.Given as goal

abbrev pub invariant-loop-line : goal.invariant-loop-line
invariant-loop-line l = record {
  scanned : IsScanned l.bytes l.left l.first;
  same : split_from (length l.bytes - length l.left) l.first (lines_of l.left) ≡ split_of l.bytes;
}

abbrev pub decreases-loop-line : goal.decreases-loop-line
decreases-loop-line l = length l.left
