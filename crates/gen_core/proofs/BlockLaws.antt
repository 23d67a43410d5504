-- Lists that concatenate the parts of blocks: properties of all parts are properties of the list, and each element
-- belongs to a block.
use Rattle.std.specs.Prelude.{◌≡◌, ℕ, zero, suc, ◌*◌, ◌≤◌, ◌<◌, true, List, length, map, All}
use Rattle.std.proofs.Common.{arith, sym, subst, inl, inr, ⊎_elim, length-append}
use Rattle.std.proofs.lemmas.Bool.{cases_lt}
use Rattle.std.proofs.lemmas.List.{map-append}
use Rattle.std.proofs.lemmas.List.Elements.{All-nil, All-append}
use Rattle.net_theory.specs.Document.{Name, has}
use Rattle.net_theory.specs.NameLaws.{has_none, has_left, has_right, has_either}
use Rattle.gen_core.specs.Generated.{of_blocks}

pub of_all : {A : Type 0} (P : A → Type 0) (f : ℕ → List A) (n : ℕ) → ((k : ℕ) → k < n → All P (f k)) → All P (of_blocks f n)
unfolding of_blocks
of_all P f zero each = All-nil P
of_all P f (suc n) each = All-append P (of_blocks f n) (f n) (of_all P f n (λ k low. each k (omega (arith, low)))) (each n (omega arith))

-- each block's part has at most `most` elements
pub of_length : {A : Type 0} (f : ℕ → List A) (most n : ℕ) → ((k : ℕ) → length (f k) ≤ most) → length (of_blocks f n) ≤ n * most
unfolding of_blocks
of_length f most zero each = omega arith
of_length f most (suc n) each = omega (arith, length-append (of_blocks f n) (f n), of_length f most n each, each n)

-- a name in the part of block k, where `name` maps elements to names
pub of_has : {A : Type 0} (name : A → Name) (f : ℕ → List A) (n k : ℕ) (m : Name) → k < n → has (map name (f k)) m ≡ true → has (map name (of_blocks f n)) m ≡ true
unfolding of_blocks
of_has name f zero k m low there = absurd (omega (arith, low))
of_has name f (suc n) k m low there =
    subst (λ (ns : List Name). has ns m ≡ true) (sym (map-append name (of_blocks f n) (f n)))
    (elim (cases_lt k n) [
      | inl below ↦ has_left (map name (of_blocks f n)) (map name (f n)) m (of_has name f n k m below there)
      | inr past ↦ let same : k ≡ n = omega (arith, low, past) in has_right (map name (of_blocks f n)) (map name (f n)) m (subst (λ (j : ℕ). has (map name (f j)) m ≡ true) same there)
    ])

pub of_has_name : (f : ℕ → List Name) (n k : ℕ) (m : Name) → k < n → has (f k) m ≡ true → has (of_blocks f n) m ≡ true
unfolding of_blocks
of_has_name f zero k m low there = absurd (omega (arith, low))
of_has_name f (suc n) k m low there = elim (cases_lt k n) [
  | inl below ↦ has_left (of_blocks f n) (f n) m (of_has_name f n k m below there)
  | inr past ↦ let same : k ≡ n = omega (arith, low, past) in has_right (of_blocks f n) (f n) m (subst (λ (j : ℕ). has (f j) m ≡ true) same there)
]

-- the block to whose part a name belongs
pub of_found : (f : ℕ → List Name) (n : ℕ) (m : Name) → has (of_blocks f n) m ≡ true → (k : ℕ) × (k < n) × (has (f k) m ≡ true)
unfolding of_blocks
of_found f zero m there = absurd (has_none m there)
of_found f (suc n) m there =
    ⊎_elim
    (λ old. let r = of_found f n m old in (r.0, omega (arith, r.1), r.2))
    (λ new. (n, omega arith, new))
    (has_either (of_blocks f n) (f n) m there)
