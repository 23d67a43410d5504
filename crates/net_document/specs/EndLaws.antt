-- The ends of texts.
use Rattle.std.proofs.Common.{◌≡◌, ℕ, true, false, ◌==◌, if◌then◌else◌, List, [], ◌∷◌, ◌++◌, Some, None, arith, refl}
use Rattle.std.proofs.lemmas.Grind.{common_steps}
use Rattle.net_document.specs.Contents.{is_blank, trimmed, without_last}

-- a trailing blank is removed
pub trimmed-blank : (xs : List ℕ) (b : ℕ) → is_blank b ≡ true → trimmed (xs ++ b ∷ []) ≡ trimmed xs
unfolding trimmed
trimmed-blank [] b e = grind (arith, common_steps)
trimmed-blank (x ∷ xs) b e = grind (arith, common_steps, trimmed-blank xs b e)

-- another byte stays
pub trimmed-other : (xs : List ℕ) (b : ℕ) → is_blank b ≡ false → trimmed (xs ++ b ∷ []) ≡ xs ++ b ∷ []
unfolding trimmed
trimmed-other [] b e = grind (arith, common_steps)
trimmed-other (x ∷ []) b e = grind (arith, common_steps)
trimmed-other (x ∷ y ∷ xs) b e = grind (arith, common_steps, trimmed-other (y ∷ xs) b e)

pub trimmed-nothing : trimmed [] ≡ []
unfolding trimmed
trimmed-nothing = refl

-- the last byte is `c` or isn't
pub without_last-push : (c : ℕ) (xs : List ℕ) (b : ℕ) → without_last c (xs ++ b ∷ []) ≡ (if b == c then Some xs else None)
unfolding without_last
without_last-push c [] b = grind (arith, common_steps)
without_last-push c (x ∷ []) b = grind (arith, common_steps)
without_last-push c (x ∷ y ∷ xs) b = grind (arith, common_steps, without_last-push c (y ∷ xs) b)

pub without_last-nothing : (c : ℕ) → without_last c [] ≡ None
unfolding without_last
without_last-nothing c = refl

pub ruleset ends = (common_steps, trimmed-blank, trimmed-other, trimmed-nothing, without_last-push, without_last-nothing)
