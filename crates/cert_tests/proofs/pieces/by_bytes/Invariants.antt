-- The invariant of the reader.
use Rattle.std.proofs.Common.{length}
use Rattle.line_reader.specs.Reader.{IsReader}
use Rattle.line_reader.specs.Seen.{seen}
use Rattle.cert_tests.proofs.pieces.by_bytes.Given as goal

abbrev pub invariant-loop-left : goal.invariant-loop-left
invariant-loop-left g l = IsReader g.S.LineStage.whole (seen l.reader)

abbrev pub decreases-loop-left : goal.decreases-loop-left
decreases-loop-left g l = length l.left
