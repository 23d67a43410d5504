-- A set is a subset of another if and only if each of its operators is one of the other.
use Rattle.std.specs.Prelude.{◌≡◌, ℕ, zero, suc, ◌<◌, ◌==◌, true, bit_and, min, refl}
use Rattle.std.proofs.Common.{arith, sym, ◌∙◌, ap, eqb-true, eq-eqb}
use Rattle.std.proofs.lemmas.Nat.Bits.{bit_at_and, bit_at-lt, same_from_bits}
use Rattle.std.specs.Int.{bit_at}
use Rattle.op_basis.specs.Basis.{members}
use Rattle.command_line.specs.Options.{is_within}

-- Each operator of the first set is one of the second.
abbrev pub AreWithin : ℕ → ℕ → Type 0
AreWithin set all = (op : ℕ) → members set op ≡ true → members all op ≡ true

min_right : (a b : ℕ) → b < 2 → a ≡ 1 → min a b ≡ a → b ≡ 1
min_right a zero low one e = let none : min 1 0 ≡ 1 = ap (λ (n : ℕ). min n 0) (sym one) ∙ e ∙ one in absurd (omega (arith, none))
min_right a (suc zero) low one e = refl
min_right a (suc (suc b)) low one e = absurd (omega (arith, low))

pub within_members : (set all : ℕ) → is_within set all ≡ true → AreWithin set all
within_members set all is op has =
    let same : bit_and set all ≡ set = eqb-true (bit_and set all) set is in
    let one : bit_at set op ≡ 1 = eqb-true (bit_at set op) 1 has in
    let both : min (bit_at set op) (bit_at all op) ≡ bit_at set op = sym (bit_at_and set all op) ∙ ap (λ (n : ℕ). bit_at n op) same in
    ap (λ (n : ℕ). n == 1) (min_right (bit_at set op) (bit_at all op) (bit_at-lt all op) one both)

min_left : (a b : ℕ) → a < 2 → ((a == 1) ≡ true → (b == 1) ≡ true) → min a b ≡ a
min_left zero b low has = omega arith
min_left (suc zero) b low has = ap (min 1) (eqb-true b 1 (has refl))
min_left (suc (suc a)) b low has = absurd (omega (arith, low))

pub members_within : (set all : ℕ) → AreWithin set all → is_within set all ≡ true
members_within set all each =
    eq-eqb (bit_and set all) set
    (same_from_bits (bit_and set all) set
    (λ op. bit_at_and set all op ∙ min_left (bit_at set op) (bit_at all op) (bit_at-lt set op) (each op)))
