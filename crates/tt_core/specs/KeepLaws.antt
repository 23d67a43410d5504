-- One more table line keeps the invariant of a specification.
use Rattle.std.proofs.Common.{◌≡◌, ℕ, zero, suc, ◌+◌, ◌*◌, ◌^◌, ◌/◌, ◌<◌, ◌≤◌, true, false, List, [], ◌∷◌, ◌++◌, length, get_or, refl, sym, ◌∙◌, arith, inl, inr, length-append, eq-eqb}
use Rattle.std.proofs.lemmas.Grind.{common_steps}
use Rattle.std.proofs.lemmas.Bool.{cases_lt, eqb-true}
use Rattle.std.proofs.lemmas.Nat.Bits.{bit_at_lowest, bit_at-suc, bit_at-zero}
use Rattle.std.specs.Int.{bit_at}
use Rattle.chain_theory.specs.Operator.{digit}
use Rattle.tt_core.specs.Cells.{on_bit, care_bit, word_of}
use Rattle.tt_core.specs.Words.{IsSpec}
use Rattle.tt_core.specs.CellWordLaws.{IsBit, on_is_bit, care_is_bit}
use Rattle.chain_theory.specs.Limits.{most_outputs}

-- the digits of a word are the bits of its characters
pub word_bit : (bit : ℕ → ℕ) → IsBit bit → (xs : List ℕ) (t d : ℕ) → t < length xs → bit_at (word_of bit xs) t ≡ bit (get_or xs t d)
unfolding word_of
word_bit bit small [] t d within = absurd (omega arith)
word_bit bit small (x ∷ xs) zero d within = bit_at_lowest (bit x + 2 * word_of bit xs) ∙ omega (arith, small x)
word_bit bit small (x ∷ xs) (suc t) d within =
    let halved : (bit x + 2 * word_of bit xs) / 2 ≡ word_of bit xs = omega (arith, small x) in
    bit_at-suc (bit x + 2 * word_of bit xs) t ∙ rw halved (word_bit bit small xs t d (omega arith))

-- a value of 1 is specified
on_care : (c : ℕ) → on_bit c ≡ 1 → care_bit c ≡ 1
on_care c one = grind (arith, common_steps)

-- after the last character it has no digit
pub word_none : (bit : ℕ → ℕ) → IsBit bit → (xs : List ℕ) (t : ℕ) → length xs ≤ t → bit_at (word_of bit xs) t ≡ 0
unfolding word_of
word_none bit small [] t past = bit_at-zero t
word_none bit small (x ∷ xs) zero past = absurd (omega arith)
word_none bit small (x ∷ xs) (suc t) past =
    let halved : (bit x + 2 * word_of bit xs) / 2 ≡ word_of bit xs = omega (arith, small x) in
    bit_at-suc (bit x + 2 * word_of bit xs) t ∙ rw halved (word_none bit small xs t (omega arith))

-- a digit of the values is 1 only at a specified row
on_inside : (xs : List ℕ) (t : ℕ) → digit (word_of on_bit xs) t ≡ true → digit (word_of care_bit xs) t ≡ true
on_inside xs t one =
    let is_one : bit_at (word_of on_bit xs) t ≡ 1 = eqb-true _ _ one in
    elim (cases_lt t (length xs)) [
      | inl within ↦ eq-eqb _ 1 (word_bit care_bit care_is_bit xs t 0 within ∙ on_care (get_or xs t 0) (sym (word_bit on_bit on_is_bit xs t 0 within) ∙ is_one))
      | inr past ↦ absurd (omega (arith, word_none on_bit on_is_bit xs t past))
    ]

-- after the last character no row is specified
care_ends : (xs : List ℕ) (t : ℕ) → length xs ≤ t → digit (word_of care_bit xs) t ≡ false
care_ends xs t past = rw (word_none care_bit care_is_bit xs t past) refl

-- a relation between the numbers at each index of two lists holds after a push to both lists
pub pairs_push : (R : ℕ → ℕ → Type 0) (xs ys : List ℕ) (x y i : ℕ) → length ys ≡ length xs →
    ((k : ℕ) → R (get_or xs k 0) (get_or ys k 0)) → R x y → R (get_or (xs ++ x ∷ []) i 0) (get_or (ys ++ y ∷ []) i 0)
pairs_push R [] [] x y zero same each last = last
pairs_push R [] [] x y (suc i) same each last = each 0
pairs_push R [] (b ∷ ys) x y i same each last = absurd (omega arith)
pairs_push R (a ∷ xs) [] x y i same each last = absurd (omega arith)
pairs_push R (a ∷ xs) (b ∷ ys) x y zero same each last = each 0
pairs_push R (a ∷ xs) (b ∷ ys) x y (suc i) same each last = pairs_push R xs ys x y i (omega arith) (λ k. each (suc k)) last

-- One more table line keeps the invariant of a specification.
pub kept : (n : ℕ) (on care on' care' text : List ℕ) → IsSpec (record { n = n; on = on; care = care }) →
    length on < most_outputs → length text ≡ 2 ^ n → on' ≡ on ++ word_of on_bit text ∷ [] → care' ≡ care ++
    word_of care_bit text ∷ [] → IsSpec (record { n = n; on = on'; care = care' })
kept n on care on' care' text spec room rows on-is care-is =
    rw (on-is, care-is) record {
      inputs = spec.inputs;
      outputs = omega (arith, spec.outputs, length-append on (word_of on_bit text ∷ []));
      together = omega (arith, spec.together, length-append on (word_of on_bit text ∷ []), length-append care (word_of care_bit text ∷ []));
      inside = λ i t. pairs_push (λ a b. digit a t ≡ true → digit b t ≡ true) on care (word_of on_bit text) (word_of care_bit text) i spec.together (λ k. spec.inside k t) (on_inside text t);
      rows = λ i t past. pairs_push (λ a b. digit b t ≡ false) on care (word_of on_bit text) (word_of care_bit text) i spec.together (λ k. spec.rows k t past) (care_ends text t (omega arith));
    }
