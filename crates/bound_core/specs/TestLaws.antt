-- The tests `uses` and `differ` pass exactly where there are rows that show it.
use Rattle.std.proofs.Common.{◌≡◌, ℕ, zero, suc, ◌+◌, ◌-◌, ◌<◌, ◌≤◌, ◌^◌, ◌==◌, true, false, refl, sym, ap, ◌∙◌, arith, inl, inr}
use Rattle.std.specs.Prelude.{max}
use Rattle.std.specs.Int.{bit_at}
use Rattle.std.proofs.lemmas.Bool.{cases_lt, cases_eq, cases_Bool}
use Rattle.std.proofs.lemmas.Nat.Bits.{bit_at_or, bit_at-pow_same, bit_at-lt, bit_at_above, same_from_bits}
use Rattle.chain_theory.specs.Operator.{digit}
use Rattle.chain_theory.specs.Specification.{Specification, input}
use Rattle.chain_theory.specs.declared.data.Cell.{Cell}
use Rattle.chain_theory.specs.declared.data.Cell.TheVariants.{Zero, One, Free}
use Rattle.bound_core.specs.Support.{are_opposite, IsInSupport, OutputsDiffer}
use Rattle.bound_core.specs.Counts.{is_sensitive_on, uses, differ_on, differ}
use Rattle.bound_core.specs.CountLaws.{passes_some, raised_or, raised_other, raised_low, opposite_swapped}

-- the digit that is set
raised_own : (t k : ℕ) → digit t k ≡ false → digit (t + 2 ^ k) k ≡ true
raised_own t k none =
    let one : max (bit_at t k) (bit_at (2 ^ k) k) ≡ 1 = omega (arith, bit_at-pow_same k, bit_at-lt t k) in
    ap (λ (x : ℕ). digit x k) (raised_or t k none) ∙ ap (λ (x : ℕ). x == 1) (bit_at_or t (2 ^ k) k ∙ one)

opposite_same : (a : Cell) → are_opposite a a ≡ true → ⊥
opposite_same Zero e = cc
opposite_same One e = cc
opposite_same Free e = cc

same_number : (x y : ℕ) → x < 2 → y < 2 → (x == 1) ≡ (y == 1) → x ≡ y
same_number zero zero low_x low_y e = refl
same_number zero (suc zero) low_x low_y e = absurd cc
same_number (suc zero) zero low_x low_y e = absurd cc
same_number (suc zero) (suc zero) low_x low_y e = refl
same_number (suc (suc x)) y low_x low_y e = absurd (omega arith)
same_number zero (suc (suc y)) low_x low_y e = absurd (omega arith)
same_number (suc zero) (suc (suc y)) low_x low_y e = absurd (omega arith)

bit_from_digit : (a b i : ℕ) → digit a i ≡ digit b i → bit_at a i ≡ bit_at b i
bit_from_digit a b i e = same_number (bit_at a i) (bit_at b i) (bit_at-lt a i) (bit_at-lt b i) e

-- rows with the same bits of all inputs are one row
same_row : (n t u : ℕ) → t < 2 ^ n → u < 2 ^ n → ((i : ℕ) → 1 ≤ i → i ≤ n → input n t i ≡ input n u i) → t ≡ u
same_row n t u low_t low_u same = same_from_bits t u (λ k. by k)
  where
    by : (k : ℕ) → bit_at t k ≡ bit_at u k
    by k = elim (cases_lt k n) [
      | inl below ↦
          let place : n - (n - k) ≡ k = omega arith in
          bit_from_digit t u k (ap (digit t) (sym place) ∙ same (n - k) (omega arith) (omega arith) ∙ ap (digit u) place)
      | inr past ↦ bit_at_above t n k low_t past ∙ sym (bit_at_above u n k low_u past)
    ]

-- a row with the bit 0 of input j, and the other row that differs in that input alone
raised_is : (n j t u : ℕ) → 1 ≤ j → j ≤ n → t < 2 ^ n → u < 2 ^ n → input n t j ≡ false → input n u j ≡ true → ((i : ℕ) → 1 ≤ i → i ≤ n → (i ≡ j → ⊥) → input n t i ≡ input n u i) → t + 2 ^ (n - j) ≡ u
raised_is n j t u some low low_t low_u none one alone = same_row n (t + 2 ^ (n - j)) u (raised_low n j t some low low_t none) low_u (λ i from to. by i from to)
  where
    by : (i : ℕ) → 1 ≤ i → i ≤ n → input n (t + 2 ^ (n - j)) i ≡ input n u i
    by i from to = elim (cases_eq i j) [
      | inl same ↦ rw same (raised_own t (n - j) none ∙ sym one)
      | inr other ↦ raised_other t (n - j) (n - i) none (λ (e : n - i ≡ n - j). other (omega arith)) ∙ alone i from to other
    ]

is_sensitive_at : (s : Specification) (h j t u : ℕ) → t < 2 ^ s.inputs → input s.inputs t j ≡ false → t + 2 ^ (s.inputs - j) ≡ u → are_opposite (s.cell h t) (s.cell h u) ≡ true → uses s h j ≡ true
unfolding uses is_sensitive_on
is_sensitive_at s h j t u low none raised asked =
    let here : is_sensitive_on s h j t ≡ true = rw (raised, asked, none) refl in
    passes_some (is_sensitive_on s h j) (2 ^ s.inputs) t low here

pub is_uses : (s : Specification) (h j : ℕ) → 1 ≤ j → j ≤ s.inputs → IsInSupport s j h → uses s h j ≡ true
is_uses s h j some low used = elim (cases_Bool (input s.inputs used.row j)) [
  | inl one ↦ elim (cases_Bool (input s.inputs used.other j)) [
    | inl both ↦ absurd (never (one ∙ sym both))
    | inr none ↦ is_sensitive_at s h j used.other used.row used.inside.1 none
        (raised_is s.inputs j used.other used.row some low used.inside.1 used.inside.0 none one (λ i from to apart.
        sym (used.alone i from to apart))) (opposite_swapped (s.cell h used.row) (s.cell h used.other) used.asked)
  ]
  | inr none ↦ elim (cases_Bool (input s.inputs used.other j)) [
    | inl one ↦ is_sensitive_at s h j used.row used.other used.inside.0 none (raised_is s.inputs j used.row used.other some low used.inside.0 used.inside.1 none one used.alone) used.asked
    | inr neither ↦ absurd (never (none ∙ sym neither))
  ]
]
  where
    same : input s.inputs used.row j ≡ input s.inputs used.other j → (i : ℕ) → 1 ≤ i → i ≤ s.inputs → input s.inputs used.row i ≡ input s.inputs used.other i
    same e i from to = elim (cases_eq i j) [
      | inl own ↦ ap (input s.inputs used.row) own ∙ e ∙ ap (input s.inputs used.other) (sym own)
      | inr other ↦ used.alone i from to other
    ]

    never : input s.inputs used.row j ≡ input s.inputs used.other j → ⊥
    never e =
        let one_row : used.row ≡ used.other = same_row s.inputs used.row used.other used.inside.0 used.inside.1 (same e) in
        opposite_same (s.cell h used.row) (ap (λ (u : ℕ). are_opposite (s.cell h used.row) (s.cell h u)) one_row ∙ used.asked)

pub is_differ : (s : Specification) (g h : ℕ) → OutputsDiffer s g h → differ s g h ≡ true
unfolding differ differ_on
is_differ s g h d = passes_some (differ_on s g h) (2 ^ s.inputs) d.row d.inside d.asked
