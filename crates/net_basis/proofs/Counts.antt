-- The number of known functions.
use Rattle.std.proofs.Common.{◌≡◌, ◌≢◌, ℕ, zero, suc, ◌+◌, ◌≤◌, ◌<◌, Bool, true, false, refl, ap, ◌∙◌, arith, inl, inr}
use Rattle.std.proofs.lemmas.Bool.{cases_eq}
use Rattle.chain_theory.specs.Value.{extended}
use Rattle.chain_theory.specs.ValueLaws.{extended-same, extended-other}

abbrev pub one_if : Bool → ℕ
one_if true = 1
one_if false = 0

-- how many functions below the bound are known
unfoldable pub known_below : (ℕ → Bool) → ℕ → ℕ
known_below known zero = 0
known_below known (suc k) = known_below known k + one_if (known k)

one_low : (b : Bool) → one_if b ≤ 1
one_low true = omega arith
one_low false = omega arith

pub known_few : (known : ℕ → Bool) (bound : ℕ) → known_below known bound ≤ bound
unfolding known_below
known_few known zero = omega arith
known_few known (suc k) = omega (arith, known_few known k, one_low (known k))

-- a function from the bound on doesn't count
known_past : (known : ℕ → Bool) (f bound : ℕ) → bound ≤ f → known_below (extended known f true) bound ≡ known_below known bound
unfolding known_below
known_past known f zero high = refl
known_past known f (suc k) high =
    let other : k ≢ f = omega (arith, high) in
    omega (arith, known_past known f k (omega (arith, high)), ap one_if (extended-other known f k true other))

-- one more function
pub known_more : (known : ℕ → Bool) (f bound : ℕ) → f < bound → known f ≡ false → known_below (extended known f true) bound ≡ known_below known bound + 1
unfolding known_below
known_more known f zero low new = absurd (omega (arith, low))
known_more known f (suc k) low new = elim (cases_eq k f) [
  | inl same ↦
      let had : known k ≡ false = ap known same ∙ new in
      omega (arith, known_past known f k (omega (arith, same)), ap one_if (extended-same known f k true same), ap one_if had)
  | inr other ↦
      omega (arith, ap one_if (extended-other known f k true other), known_more known f k (omega (arith, low, other)) new)
]
