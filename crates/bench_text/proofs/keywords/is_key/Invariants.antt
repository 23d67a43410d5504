use Rattle.std.proofs.Common.{◌≡◌, length}
use Rattle.bench_text.specs.Statements.{is_key}
use Rattle.bench_text.proofs.keywords.is_key.Given as goal

abbrev pub invariant-loop-byte : goal.invariant-loop-byte
invariant-loop-byte l = is_key l.left l.wanted ≡ is_key l.word l.key

abbrev pub decreases-loop-byte : goal.decreases-loop-byte
decreases-loop-byte l = length l.left
