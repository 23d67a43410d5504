-- Loops that test all operators.
use Rattle.std.proofs.Common.{◌≡◌, ℕ, zero, suc, ◌+◌, ◌<◌, Bool, true, false, refl, arith, add-one, inl, inr}
use Rattle.std.proofs.lemmas.Grind.{common_steps}
use Rattle.std.proofs.lemmas.Bool.{cases_lt}
use Rattle.op_basis.specs.Closed.{every_below}

-- no operator yet
pub every_none : (test : ℕ → Bool) → every_below 0 test ≡ true
unfolding every_below
every_none test = refl

-- one more operator
pub every_more : (test : ℕ → Bool) (k : ℕ) → every_below k test ≡ true → test k ≡ true → every_below (k + 1) test ≡ true
unfolding every_below
every_more test k before here = rw (add-one, before, here) refl

-- an operator that fails
fails_at : (test : ℕ → Bool) (k bound : ℕ) → k < bound → test k ≡ false → every_below bound test ≡ false
unfolding every_below
fails_at test k zero low here = absurd (omega arith)
fails_at test k (suc bound) low here = elim (cases_lt k bound) [
  | inl below ↦ rw (fails_at test k bound below here) refl
  | inr past ↦ let same : k ≡ bound = omega arith in let last : test bound ≡ false = rw same at here in grind (arith, common_steps)
]

pub every_fails : (test : ℕ → Bool) (k bound : ℕ) → test k ≡ false → k < bound → every_below bound test ≡ false
every_fails test k bound here low = fails_at test k bound low here

pub ruleset passing = (common_steps, every_none, every_more, every_fails)
