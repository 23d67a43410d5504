use Rattle.std.proofs.Common.{◌≡◌, length}
use Rattle.text_core.specs.Words.{after}
use Rattle.text_core.proofs.words.after.Given as goal

abbrev pub invariant-loop-byte : goal.invariant-loop-byte
invariant-loop-byte l = after l.wanted l.left ≡ after l.word l.text

abbrev pub decreases-loop-byte : goal.decreases-loop-byte
decreases-loop-byte l = length l.wanted
