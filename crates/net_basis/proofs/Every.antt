-- Loops that test all operators.
use Rattle.std.proofs.Common.{◌≡◌, ℕ, ◌+◌, Bool, true, refl, add-one}
use Rattle.std.proofs.lemmas.Grind.{common_steps}
use Rattle.op_basis.specs.Closed.{every_below}

-- no operator yet
pub every_none : (test : ℕ → Bool) → every_below 0 test ≡ true
unfolding every_below
every_none test = refl

-- one more operator
pub every_more : (test : ℕ → Bool) (k : ℕ) → every_below k test ≡ true → test k ≡ true → every_below (k + 1) test ≡ true
unfolding every_below
every_more test k before here = rw (add-one, before, here) refl

pub ruleset passing = (common_steps, every_none, every_more)
