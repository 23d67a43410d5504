-- Counts by colours: numbers of different colours are no more than those that they have the colours of.
use Rattle.std.proofs.Common.{◌≡◌, ℕ, zero, suc, ◌≤◌, ◌<◌, true, false, Bool, ◌&&◌, not, ◌==◌, refl, sym, ap, ◌∙◌, arith, inl, inr}
use Rattle.std.proofs.lemmas.Bool.{cases_Bool, and_parts, and_from, eq-eqb, ne_eqb}
use Rattle.bound_core.specs.Counts.{count_below}
use Rattle.step_core.specs.ReadCountLaws.{count_fewer}

-- the test without one number
unfoldable without : (ℕ → Bool) → ℕ → ℕ → Bool
without b t j = b j && not (j == t)

without_own : (b : ℕ → Bool) (t : ℕ) → without b t t ≡ false
unfolding without
without_own b t = ap (λ (x : Bool). b t && not x) (eq-eqb t t refl) ∙ none (b t)
  where
    none : (x : Bool) → (x && false) ≡ false
    none true = refl
    none false = refl

without_less : (b : ℕ → Bool) (t j : ℕ) → without b t j ≡ true → b j ≡ true
unfolding without
without_less b t j e = (and_parts (b j) (not (j == t)) e).0

without_other : (b : ℕ → Bool) (t j : ℕ) → b j ≡ true → (j ≡ t → ⊥) → without b t j ≡ true
unfolding without
without_other b t j e apart = and_from (b j) (not (j == t)) e (ap not (ne_eqb j t apart))

-- a number below k that passes, with this colour
abbrev pub HasColour : (ℕ → Bool) → (ℕ → ℕ) → ℕ → ℕ → Type 0
HasColour b of_b k colour = (j : ℕ) × (j < k) × (b j ≡ true) × (of_b j ≡ colour)

still_coloured : (b : ℕ → Bool) (of_b : ℕ → ℕ) (k t colour : ℕ) → (of_b t ≡ colour → ⊥) → HasColour b of_b k colour → HasColour (without b t) of_b k colour
still_coloured b of_b k t colour other has =
    (has.0, has.1, without_other b t has.0 has.2 (λ e. other (ap of_b (sym e) ∙ has.3)), has.3)

-- Where each number of `a` has the colour of one of `b`, and no two of them have one colour, `b` has as many.
pub count_colours : (of_a of_b : ℕ → ℕ) (a b : ℕ → Bool) (m k : ℕ) →
    ((i : ℕ) → i < m → a i ≡ true → HasColour b of_b k (of_a i)) →
    ((i j : ℕ) → i < m → j < m → a i ≡ true → a j ≡ true → of_a i ≡ of_a j → i ≡ j) →
    count_below a m ≤ count_below b k
unfolding count_below
count_colours of_a of_b a b zero k each apart = omega arith
count_colours of_a of_b a b (suc m) k each apart = elim (cases_Bool (a m)) [
  | inr none ↦ rw none (omega (
    arith,
    count_colours of_a of_b a b m k (λ i low e. each i (omega (arith, low)) e)
        (λ i j low_i low_j. apart i j (omega (arith, low_i)) (omega (arith, low_j))),
  ))
  | inl last ↦
      let found = each m (omega arith) last in
      let t : ℕ = found.0 in
      rw last (omega (
        arith,
        count_fewer (without b t) b k t found.1 (without_own b t) found.2 (λ j low e. without_less b t j e),
        count_colours of_a of_b a (without b t) m k
            (λ i low e. still_coloured b of_b k t (of_a i) (λ same. omega (arith, low, apart m i (omega arith) (omega (arith, low)) last e (sym found.3 ∙ same))) (each i (omega (arith, low)) e))
            (λ i j low_i low_j. apart i j (omega (arith, low_i)) (omega (arith, low_j))),
      ))
]
