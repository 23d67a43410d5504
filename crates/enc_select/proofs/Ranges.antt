-- Comprehensions over ranges and over lists of a few elements, in the terms of loops.
use Rattle.std.proofs.Common.{◌≡◌, ℕ, ◌+◌, ◌-◌, ◌<◌, ◌≤◌, ◌==◌, List, [], ◌∷◌, refl, arith, append_assoc, append-nil}
use Rattle.std.specs.Prelude.{min, max, if◌then◌else◌}
use Rattle.std.specs.List.{flat_map, range_with_len}
use Rattle.std.proofs.lemmas.Grind.{common_steps}
use Rattle.clause_core.specs.RangeLaws as ranges

pub ruleset loops = (ranges.loops, append_assoc)

-- a loop over the steps above one
pub all_above : {A : Type 0} (f : ℕ → List A) (i n r : ℕ) → i < n + 1 + r → flat_map f (range_with_len (i + 1) (n + r - i)) ≡ flat_map f (range_with_len (i + 1) (n + 1 + r - (i + 1)))
all_above {A} f i n r low = let e : n + r - i ≡ n + 1 + r - (i + 1) = omega arith in rw e refl

pub ruleset later = (ranges.loops, all_above)

-- a step after the last
pub none_below : {A : Type 0} (f : ℕ → List A) (a r : ℕ) → r ≤ 0 → flat_map f (range_with_len a (r - 1)) ≡ []
none_below {A} f a r none = let e : r - 1 ≡ 0 = omega arith in rw e refl

pub ruleset without_steps = (common_steps, none_below)

-- one piece, and two
pub one_piece : {A : Type 0} (f : ℕ → List A) (j k : ℕ) → j ≡ k → flat_map f (if j == k then j ∷ [] else min j k ∷ max j k ∷ []) ≡ f j
one_piece {A} f j k e = grind (arith, common_steps)

pub ruleset pieces = (common_steps, one_piece, append_assoc, append-nil)
