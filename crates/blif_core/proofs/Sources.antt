-- The names of the sources.
use Rattle.std.proofs.Common.{◌≡◌, ℕ, zero, suc, ◌-◌, ◌≤◌, ◌<◌, List, [], ◌∷◌, ◌++◌, length, map, refl, ap, ◌∙◌, arith}
use Rattle.std.specs.List.{slice_index_or}
use Rattle.std.proofs.lemmas.Grind.{common_steps}
use Rattle.net_theory.specs.Document.{Name, Latch, latch_output}

pub index_left : (xs ys : List Name) (i : ℕ) → i < length xs → slice_index_or (xs ++ ys) i [] ≡ slice_index_or xs i []
index_left [] ys i low = absurd (omega arith)
index_left (x ∷ xs) ys zero low = refl
index_left (x ∷ xs) ys (suc i) low = index_left xs ys i (omega arith)

pub index_right : (xs ys : List Name) (i : ℕ) → length xs ≤ i → slice_index_or (xs ++ ys) i [] ≡ slice_index_or ys (i - length xs) []
index_right [] ys i low = let e : i ≡ i - 0 = omega arith in ap (λ k. slice_index_or ys k []) e
index_right (x ∷ xs) ys zero low = absurd (omega arith)
index_right (x ∷ xs) ys (suc i) low = let e : i - length xs ≡ suc i - suc (length xs) = omega arith in index_right xs ys i (omega arith) ∙ ap (λ k. slice_index_or ys k []) e

pub latch_at : (ls : List Latch) (i : ℕ) (d : Latch) → i < length ls → slice_index_or (map latch_output ls) i [] ≡ (slice_index_or ls i d).output
latch_at [] i d low = absurd (omega arith)
latch_at (l ∷ ls) zero d low = refl
latch_at (l ∷ ls) (suc i) d low = latch_at ls i d (omega arith)

pub latch_past : (ls : List Latch) (i : ℕ) → length ls ≤ i → slice_index_or (map latch_output ls) i [] ≡ []
latch_past [] zero low = refl
latch_past [] (suc i) low = refl
latch_past (l ∷ ls) zero low = absurd (omega arith)
latch_past (l ∷ ls) (suc i) low = latch_past ls i (omega arith)

pub ruleset sources = (common_steps, index_left, index_right, latch_at, latch_past)
