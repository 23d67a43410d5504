use Rattle.std.proofs.Common.{◌≡◌, length}
use Rattle.file_words.specs.Formats as spec
use Rattle.file_words.proofs.formats.ends_with.Given as goal

abbrev pub invariant-loop-rest : goal.invariant-loop-rest
invariant-loop-rest l = spec.ends_with l.left l.end ≡ spec.ends_with l.word l.end

abbrev pub decreases-loop-rest : goal.decreases-loop-rest
decreases-loop-rest l = length l.left
