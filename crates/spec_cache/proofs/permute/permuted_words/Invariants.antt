use Rattle.std.proofs.Common.{◌≡◌, ◌++◌, length, map}
use Rattle.spec_cache.specs.Order.{permuted_word}
use Rattle.spec_cache.proofs.permute.permuted_words.Given as goal

abbrev pub invariant-loop-word : goal.invariant-loop-word
invariant-loop-word l = l.permuted.items ++ map (permuted_word l.n l.order) l.left ≡ map (permuted_word l.n l.order) l.words

abbrev pub decreases-loop-word : goal.decreases-loop-word
decreases-loop-word l = length l.left
