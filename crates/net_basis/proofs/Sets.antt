-- Sets of functions as numbers: one more member.
use Rattle.std.proofs.Common.{◌≡◌, ◌≢◌, ℕ, zero, suc, ◌*◌, ◌%◌, ◌^◌, ◌≤◌, ◌<◌, ◌==◌, ◌||◌, Bool, true, false, if◌then◌else◌, bit_or, max, refl, sym, ap, ◌∙◌, arith, ⊎_elim, inl, inr}
use Rattle.std.proofs.lemmas.Bool.{cases_eq, cases_lt}
use Rattle.std.proofs.lemmas.Grind.{common_steps}
use Rattle.std.proofs.lemmas.Nat.{one_shl, le_or_l, or_of_16}
use Rattle.std.proofs.lemmas.Nat.Bits.{bit_at_or, bit_at-lt, bit_at-zero, bit_at-pow_other, bit_at_above}
use Rattle.std.specs.Int.{bit_at}
use Rattle.chain_theory.specs.Value.{extended}
use Rattle.chain_theory.specs.ValueLaws.{extended-same, extended-other}
use Rattle.op_basis.specs.Basis.{members}
use Rattle.op_basis.specs.ListLaws.{or_has}
use Rattle.net_basis.specs.Joins.{operands}

max_none : (a : ℕ) → a < 2 → max a 0 ≡ a
max_none zero low = refl
max_none (suc zero) low = refl
max_none (suc (suc a)) low = absurd (omega arith)

-- membership of the others is as before
old_member : (set p w : ℕ) → w ≢ p → members (bit_or set (2 ^ p)) w ≡ members set w
old_member set p w other = ap (λ (x : ℕ). x == 1) (bit_at_or set (2 ^ p) w ∙ rw (bit_at-pow_other p w other) (max_none (bit_at set w) (bit_at-lt set w)))

member_at : (set p w : ℕ) → members (bit_or set (2 ^ p)) w ≡ extended (members set) p true w
member_at set p w =
    ⊎_elim
    (λ here. ap (members (bit_or set (2 ^ p))) here ∙ ap (λ (x : ℕ). x == 1) (or_has set p) ∙ sym (extended-same (members set) p w true here))
    (λ other. old_member set p w other ∙ sym (extended-other (members set) p w true other))
    (cases_eq w p)

one_bit : (p : ℕ) → p < 16 → 1 * 2 ^ p % 2 ^ 16 ≡ 2 ^ p
one_bit p low = one_shl p 16 low

-- the set with one more function
pub grown_members : (set p : ℕ) → p < 16 → members (bit_or set (1 * 2 ^ p % 2 ^ 16)) ≡ extended (members set) p true
grown_members set p low = ap (λ (x : ℕ). members (bit_or set x)) (one_bit p low) ∙ (λ i w. member_at set p w i)

pub grown_most : (set p : ℕ) → set ≤ bit_or set (1 * 2 ^ p % 2 ^ 16)
grown_most set p = le_or_l set (1 * 2 ^ p % 2 ^ 16)

pub grown_below : (set p : ℕ) → set < 65536 → p < 16 → bit_or set (1 * 2 ^ p % 2 ^ 16) < 65536
grown_below set p low small = or_of_16 set (1 * 2 ^ p % 2 ^ 16) low (omega arith)

pub ruleset growing = (common_steps, grown_members, grown_most, grown_below)

-- a member is an operator
pub member_low : (set p : ℕ) → set < 65536 → members set p ≡ true → p < 16
member_low set p low is = elim (cases_lt p 16) [
  | inl below ↦ below
  | inr high ↦ absurd (differ (bit_at set p) (bit_at_above set 16 p low high) is)
] where
  differ : (b : ℕ) → b ≡ 0 → (b == 1) ≡ true → ⊥
  differ zero e is = cc
  differ (suc b) e is = cc

-- ---- the operands

none_at : (w : ℕ) → members 0 w ≡ false
none_at w = ap (λ (x : ℕ). x == 1) (bit_at-zero w)

four_by : (x y z t : Bool) →
    (if y then true else (if x then true else (if t then true else (if z then true else false)))) ≡ (x || y || z || t)
four_by true true true true = refl
four_by true true true false = refl
four_by true true false true = refl
four_by true true false false = refl
four_by true false true true = refl
four_by true false true false = refl
four_by true false false true = refl
four_by true false false false = refl
four_by false true true true = refl
four_by false true true false = refl
four_by false true false true = refl
four_by false true false false = refl
four_by false false true true = refl
four_by false false true false = refl
four_by false false false true = refl
four_by false false false false = refl

abbrev with_all : (ℕ → Bool) → ℕ → Bool
with_all none = extended (extended (extended (extended none 0 true) 15 true) 3 true) 5 true

operands_at : (w : ℕ) → with_all (members 0) w ≡ operands w
operands_at w =
    ap (λ (b : Bool). if w == 5 then true else (if w == 3 then true else (if w == 15 then true else (if w == 0 then true
    else b)))) (none_at w)
    ∙ four_by (w == 3) (w == 5) (w == 0) (w == 15)

pub all_operands : extended (extended (extended (extended (members 0) 0 true) 15 true) 3 true) 5 true ≡ operands
all_operands = λ i w. operands_at w i
