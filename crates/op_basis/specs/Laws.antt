-- An operator is determined by its values; a test of all operators is one of each.
use Rattle.std.proofs.Common.{◌≡◌, ◌≤◌, ℕ, zero, suc, ◌<◌, ◌==◌, Bool, true, false, refl, sym, ap, ◌∙◌, arith, inl, inr}
use Rattle.std.proofs.lemmas.Grind.{common_steps}
use Rattle.std.proofs.lemmas.Bool.{cases_lt}
use Rattle.std.specs.Int.{bit_at}
use Rattle.chain_theory.specs.Operator.{apply, digit}
use Rattle.op_basis.specs.Closed.{number, operator_of, every_below, every}
use Rattle.op_basis.specs.ReadBack.{operator_is}

number_low : (b : Bool) → number b ≤ 1
number_low true = omega arith
number_low false = omega arith

is_one : (b : Bool) → (number b == 1) ≡ b
is_one true = refl
is_one false = refl

digit_is : (v k : ℕ) (b : Bool) → bit_at v k ≡ number b → digit v k ≡ b
digit_is v k b e = ap (λ (x : ℕ). x == 1) e ∙ is_one b

-- The operator of a function of two bits has the function's values.
pub operator_values : (f : Bool → Bool → Bool) (a b : Bool) → apply (operator_of f) a b ≡ f a b
operator_values f false false = digit_is (operator_of f) 3 (f false false) (omega (arith, number_low (f false false), number_low (f false true), number_low (f true false), number_low (f true true)))
operator_values f false true = digit_is (operator_of f) 2 (f false true) (omega (arith, number_low (f false false), number_low (f false true), number_low (f true false), number_low (f true true)))
operator_values f true false = digit_is (operator_of f) 1 (f true false) (omega (arith, number_low (f false false), number_low (f false true), number_low (f true false), number_low (f true true)))
operator_values f true true = digit_is (operator_of f) 0 (f true true) (omega (arith, number_low (f false false), number_low (f false true), number_low (f true false), number_low (f true true)))

pub operator_low : (f : Bool → Bool → Bool) → operator_of f < 16
operator_low f = omega (arith, number_low (f false false), number_low (f false true), number_low (f true false), number_low (f true true))

-- It is the only operator with these values.
pub operator_only : (f : Bool → Bool → Bool) (op : ℕ) → op < 16 → ((a b : Bool) → apply op a b ≡ f a b) → op ≡ operator_of f
operator_only f op low same = sym (operator_is op low) ∙ rw (same false false, same false true, same true false, same true true) refl

-- A test that passes for all operators passes for each.
each_below : (bound : ℕ) (test : ℕ → Bool) → every_below bound test ≡ true → (op : ℕ) → op < bound → test op ≡ true
unfolding every_below
each_below zero test all op low = absurd (omega arith)
each_below (suc bound) test all op low = elim (cases_lt op bound) [
  | inl below ↦ each_below bound test (grind (arith, common_steps)) op below
  | inr past ↦ let same : op ≡ bound = omega arith in ap test same ∙ grind (arith, common_steps)
]

pub every_each : (test : ℕ → Bool) → every test ≡ true → (op : ℕ) → op < 16 → test op ≡ true
every_each test all = each_below 16 test all

all_below : (bound : ℕ) (test : ℕ → Bool) → ((op : ℕ) → op < bound → test op ≡ true) → every_below bound test ≡ true
unfolding every_below
all_below zero test each = refl
all_below (suc bound) test each = rw (all_below bound test (λ op low. each op (omega arith)), each bound (omega arith)) refl

pub each_every : (test : ℕ → Bool) → ((op : ℕ) → op < 16 → test op ≡ true) → every test ≡ true
each_every test each = all_below 16 test each
