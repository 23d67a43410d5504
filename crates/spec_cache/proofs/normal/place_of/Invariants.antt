use Rattle.std.proofs.Common.{◌≡◌, ℕ, ◌≤◌}
use Rattle.spec_cache.specs.Order.{number}
use Rattle.spec_cache.proofs.normal.place_of.Given as goal

abbrev pub invariant-loop-before : goal.invariant-loop-before
invariant-loop-before l = (j : ℕ) → 1 ≤ j → j ≤ l.before → number l.order j ≡ l.number → ⊥
