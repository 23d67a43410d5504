-- Members of Luby's sequence.
use Rattle.std.proofs.Common.{◌≡◌, ℕ, ◌+◌, ◌-◌, ◌*◌, ◌^◌, ◌/◌, ◌<◌, ◌≤◌, subst, sym, arith, refl}
use Rattle.std.proofs.lemmas.Nat.{pow-add}
use Rattle.cdcl_core.specs.Luby.{IsLuby, Last, Again, IsPowerUpTo}

twice : (k : ℕ) → 2 ^ (k + 1) ≡ 2 * 2 ^ k
twice k = (let e : 2 ^ (k + 1) ≡ 2 ^ k * 2 ^ 1 = pow-add 2 k 1 in let one : 2 ^ 1 ≡ 2 = refl in omega (arith, e, one))

-- The last of a block is a power of two,
pub luby_last : (i p : ℕ) → IsPowerUpTo i p → 2 * p ≤ i + 1 → IsLuby i p
luby_last i p power full =
    let double : 2 ^ (power.exponent + 1) ≡ 2 * 2 ^ power.exponent = twice power.exponent in
    let at : 2 ^ (power.exponent + 1) - 1 ≡ i = omega (arith, double, power.is, power.high, full) in
    subst (λ (n : ℕ). IsLuby n p) at (subst (λ (n : ℕ). IsLuby (2 ^ (power.exponent + 1) - 1) n) (sym power.is) (Last power.exponent))

-- and before that the sequence is repeated.
pub luby_again : (i p member : ℕ) → IsPowerUpTo i p → i + 1 < 2 * p → IsLuby (i + 1 - p) member → IsLuby i member
luby_again i p member power short before =
    let double : 2 ^ (power.exponent + 1) ≡ 2 * 2 ^ power.exponent = twice power.exponent in
    Again power.exponent i member (omega (arith, power.is, power.low)) (omega (arith, double, power.is, short)) (subst (λ (n : ℕ). IsLuby (i + 1 - n) member) power.is before)

pub power_doubled : (p : ℕ) → (k : ℕ) × (p ≡ 2 ^ k) → (k : ℕ) × (p * 2 ≡ 2 ^ k)
power_doubled p (k, is) = (k + 1, (let double : 2 ^ (k + 1) ≡ 2 * 2 ^ k = twice k in omega (arith, double, is)))

pub power_found : (n p : ℕ) → (k : ℕ) × (p ≡ 2 ^ k) → p ≤ n → n / 2 < p → IsPowerUpTo n p
power_found n p (k, is) low high = record { exponent = k; is = is; low = low; high = omega (arith, high) }
