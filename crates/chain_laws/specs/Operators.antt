-- Operators and closure properties of bases, value by value.
use Rattle.std.proofs.Common.{◌≡◌, ℕ, zero, suc, ◌<◌, Bool, true, false, not, refl, ap, ◌∙◌, arith, ⊎_elim}
use Rattle.std.proofs.lemmas.Bool.{and_parts, and_cases, or_cases, not-true, not-false, both_ways}
use Rattle.chain_theory.specs.Operator.{apply, Basis}
use Rattle.op_basis.specs.Closed.{operator_of, swapped, every_below, every, implies, has_negation, has_no_negation_at, negates_both, negates_one, keeps_constants, const_closed}
use Rattle.op_basis.specs.Laws.{operator_values, operator_low, every_each}
use Rattle.chain_laws.specs.NormalForm.{NegatesBoth}

-- functions of a bit with the same two values are the same
pub two_values : (f g : Bool → Bool) → f false ≡ g false → f true ≡ g true → (b : Bool) → f b ≡ g b
two_values f g at_0 at_1 true = at_1
two_values f g at_0 at_1 false = at_0

-- the value of the operator of a function of two bits
pub value_by : (op : ℕ) (f : Bool → Bool → Bool) → op ≡ operator_of f → (x y : Bool) → apply op x y ≡ f x y
value_by op f e x y = ap (λ (o : ℕ). apply o x y) e ∙ operator_values f x y

-- an operator with its operands exchanged
pub swapped_value : (g : ℕ) (x y : Bool) → apply (swapped g) y x ≡ apply g x y
unfolding swapped
swapped_value g x y = operator_values (λ a b. apply g b a) y x

pub swapped_low : (g : ℕ) → swapped g < 16
unfolding swapped
swapped_low g = operator_low (λ a b. apply g b a)

-- ---- tests of all operators

fails_below : (bound : ℕ) (test : ℕ → Bool) → every_below bound test ≡ false → (op : ℕ) × (op < bound) × (test op ≡ false)
unfolding every_below
fails_below zero test fails = absurd cc
fails_below (suc bound) test fails = ⊎_elim
    (λ (earlier : every_below bound test ≡ false). let found = fails_below bound test earlier in (found.0, omega (arith, found.1), found.2))
    (λ (last : test bound ≡ false). (bound, omega arith, last))
    (and_cases (every_below bound test) (test bound) fails)

-- A test that doesn't pass for all operators fails for some operator.
pub fails_at : (test : ℕ → Bool) → every test ≡ false → (op : ℕ) × (op < 16) × (test op ≡ false)
fails_at test fails = fails_below 16 test fails

-- an implication that holds, with its premise
pub implied : (a b : Bool) → implies a b ≡ true → a ≡ true → b ≡ true
implied true b e a_holds = e
implied false b e a_holds = absurd cc

-- an implication that doesn't hold: its premise holds and its conclusion doesn't
pub not_implied : (a b : Bool) → implies a b ≡ false → (a ≡ true) × (b ≡ false)
not_implied true b e = (refl, e)
not_implied false b e = absurd cc

-- ---- negations

-- a member that is a negation on equal operands
abbrev pub HasNegation : Basis → Type 0
HasNegation basis = (m : ℕ) × (m < 16) × (basis m ≡ true) × NegatesBoth m

pub negation_from : (basis : Basis) → has_negation basis ≡ true → HasNegation basis
unfolding has_no_negation_at negates_both
negation_from basis has =
    let found = fails_at (has_no_negation_at basis) (not-true (every (has_no_negation_at basis)) has) in
    let parts = not_implied (basis found.0) (not (negates_both found.0)) found.2 in
    let both = and_parts (apply found.0 false false) (not (apply found.0 true true)) (not-false (negates_both found.0) parts.1) in
    (found.0, found.1, parts.0, (both.0, not-true (apply found.0 true true) both.1))

-- If constants can be left out, and a member is a negation when one operand is a constant, then some
-- member is a negation on equal operands.
pub negation_given : (basis : Basis) → const_closed basis ≡ true → (op : ℕ) → op < 16 → basis op ≡ true → negates_one op ≡ true → HasNegation basis
unfolding keeps_constants
negation_given basis closed op low member negates = ⊎_elim
    (λ (has : has_negation basis ≡ true). negation_from basis has)
    (λ (keeps : every (keeps_constants basis) ≡ true).
    absurd (both_ways (negates_one op) (not-true (negates_one op)
    (implied (basis op) (not (negates_one op)) (every_each (keeps_constants basis) keeps op low) member)) negates))
    (or_cases (has_negation basis) (every (keeps_constants basis)) closed)
