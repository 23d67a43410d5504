-- Filters, and the test of symmetric inputs.
use Rattle.std.proofs.Common.{◌≡◌, ℕ, suc, ◌+◌, ◌-◌, ◌≤◌, Bool, true, false, List, refl, sym, arith}
use Rattle.std.specs.List.{flat_map, range_with_len}
use Rattle.std.proofs.lemmas.Grind.{common_steps}
use Rattle.std.proofs.lemmas.Bool.{false_from_ne_true}
use Rattle.std.proofs.lemmas.List.Elements.{filter_more}
use Rattle.tt_core.specs.Symmetry.{IsSymmetric}
use Rattle.tt_core.specs.Words.{Words, specification}
use Rattle.enc_theory.specs.Cuts.{may_exchange}
use Rattle.enc_laws.specs.PairTests.{exchange_symmetric, symmetric_exchange}
use Rattle.clause_core.specs.RangeLaws.{loops}
use Rattle.enc_cuts.specs.Vars.{steps_have_vars}
use Rattle.enc_cuts.specs.Counts.{both-few}

-- a filter, element by element
pub ruleset keeping = (common_steps, filter_more)

-- the selection variables are within the formula's
pub ruleset families = (common_steps, steps_have_vars)

-- the test of symmetric inputs
pub may_is : (w : Words) (p q : ℕ) (b : Bool) → (b ≡ true → IsSymmetric (specification w) p q) → (b ≡ false → IsSymmetric (specification w) p q → ⊥) → b ≡ may_exchange w p q
may_is w p q true yes_ no_ = sym (symmetric_exchange w p q (yes_ refl))
may_is w p q false yes_ no_ = sym (false_from_ne_true (may_exchange w p q) (λ e. no_ refl (exchange_symmetric w p q e)))

pub ruleset exchanging = (common_steps, may_is)

-- a loop over the inputs after a given one
pub all_inputs : {A : Type 0} (f : ℕ → List A) (p n : ℕ) → p ≤ n → flat_map f (range_with_len (suc p) (n - p)) ≡ flat_map f (range_with_len (p + 1) (n + 1 - (p + 1)))
all_inputs {A} f p n low = let e : suc p ≡ p + 1 = omega arith in let l : n - p ≡ n + 1 - (p + 1) = omega arith in rw (e, l) refl

pub ruleset inputs = (loops, all_inputs)

-- the clauses of a formula are few enough
pub ruleset limits = (common_steps, both-few)
