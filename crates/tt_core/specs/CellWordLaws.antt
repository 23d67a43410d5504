-- Words that grow by a cell.
use Rattle.std.proofs.Common.{◌≡◌, ◌≢◌, ℕ, ◌+◌, ◌*◌, ◌^◌, ◌%◌, ◌<◌, ◌≤◌, List, [], ◌∷◌, ◌++◌, length, get_or, take, bit_or, sym, ap, ◌∙◌, arith}
use Rattle.std.proofs.lemmas.Grind.{common_steps}
use Rattle.std.proofs.lemmas.List.{take_more, length-take}
use Rattle.std.proofs.lemmas.Nat.{one_shl}
use Rattle.std.proofs.Math.Nat.{two-pow-succ}
use Rattle.std.specs.Int.Bits.{or_shifted_r}
use Rattle.tt_core.specs.Cells.{on_bit, care_bit, word_of}

-- a bit is 0 or 1
abbrev pub IsBit : (ℕ → ℕ) → Type 0
IsBit bit = (c : ℕ) → bit c ≤ 1

pub on_is_bit : IsBit on_bit
on_is_bit c = grind (arith, common_steps)

pub care_is_bit : IsBit care_bit
care_is_bit c = grind (arith, common_steps)

-- a word of k cells is below 2 ^ k
pub word_below : (bit : ℕ → ℕ) → IsBit bit → (xs : List ℕ) → word_of bit xs < 2 ^ length xs
unfolding word_of
word_below bit small [] = omega arith
word_below bit small (x ∷ xs) = omega (arith, small x, word_below bit small xs, two-pow-succ (length xs))

-- one more cell, whose bit is 1
word_push : (bit : ℕ → ℕ) (xs : List ℕ) (x : ℕ) → bit x ≡ 1 → word_of bit (xs ++ x ∷ []) ≡ 2 ^ length xs + word_of bit xs
unfolding word_of
word_push bit [] x one = omega arith
word_push bit (y ∷ xs) x one = omega (arith, word_push bit xs x one, two-pow-succ (length xs))

-- one more cell, whose bit is 0
word_same : (bit : ℕ → ℕ) (xs : List ℕ) (x : ℕ) → bit x ≡ 0 → word_of bit (xs ++ x ∷ []) ≡ word_of bit xs
unfolding word_of
word_same bit [] x none = omega arith
word_same bit (y ∷ xs) x none = omega (arith, word_same bit xs x none)

set_more : (bit : ℕ → ℕ) → IsBit bit → (xs : List ℕ) (i d : ℕ) → i < length xs → i < 64 → bit (get_or xs i d) ≡ 1 →
    word_of bit (take (i + 1) xs) ≡ bit_or (word_of bit (take i xs)) (1 * 2 ^ i % 2 ^ 64)
set_more bit small xs i d within low one =
    let k : length (take i xs) ≡ i = omega (arith, length-take i xs) in
    let below : word_of bit (take i xs) < 2 ^ i = rw k at (word_below bit small (take i xs)) in
    let pushed : word_of bit (take i xs ++ get_or xs i d ∷ []) ≡ 2 ^ i + word_of bit (take i xs) = rw k at (word_push bit (take i xs) (get_or xs i d) one) in
    let once : 1 * 2 ^ i ≡ 2 ^ i = omega arith in
    let joined : bit_or (word_of bit (take i xs)) (2 ^ i) ≡ 2 ^ i + word_of bit (take i xs) = rw once at (or_shifted_r 1 i (word_of bit (take i xs)) below) in
    rw (take_more xs i d within, one_shl i 64 low) (pushed ∙ sym joined)

same_more : (bit : ℕ → ℕ) (xs : List ℕ) (i d : ℕ) → i < length xs → bit (get_or xs i d) ≡ 0 → word_of bit (take (i + 1) xs) ≡ word_of bit (take i xs)
same_more bit xs i d within none = rw (take_more xs i d within) (word_same bit (take i xs) (get_or xs i d) none)

-- a `1` sets the row's bit of the values
pub on_set : (xs : List ℕ) (i d : ℕ) → i < length xs → i < 64 → get_or xs i d ≡ 49 → word_of on_bit (take (i + 1) xs) ≡ bit_or (word_of on_bit (take i xs)) (1 * 2 ^ i % 2 ^ 64)
on_set xs i d within low e = set_more on_bit on_is_bit xs i d within low (ap on_bit e)

pub on_same : (xs : List ℕ) (i d : ℕ) → i < length xs → get_or xs i d ≢ 49 → word_of on_bit (take (i + 1) xs) ≡ word_of on_bit (take i xs)
on_same xs i d within other = same_more on_bit xs i d within (grind (arith, common_steps))

-- all but a `-` sets the row's bit of the specified rows
pub care_set : (xs : List ℕ) (i d : ℕ) → i < length xs → i < 64 → get_or xs i d ≢ 45 → word_of care_bit (take (i + 1) xs) ≡ bit_or (word_of care_bit (take i xs)) (1 * 2 ^ i % 2 ^ 64)
care_set xs i d within low other = set_more care_bit care_is_bit xs i d within low (grind (arith, common_steps))

pub care_same : (xs : List ℕ) (i d : ℕ) → i < length xs → get_or xs i d ≡ 45 → word_of care_bit (take (i + 1) xs) ≡ word_of care_bit (take i xs)
care_same xs i d within e = same_more care_bit xs i d within (ap care_bit e)

pub ruleset growing = (common_steps, on_set, on_same, care_set, care_same)
