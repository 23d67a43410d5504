-- Correctness of the search for patterns: a word is split by one signal after the other.
use Rattle.std.proofs.Common.{◌≡◌, ◌∙◌, ℕ, zero, suc, ◌+◌, ◌-◌, ◌*◌, ◌%◌, ◌^◌, ◌≤◌, ◌<◌, ◌≢◌, Bool, true, false, not}
use Rattle.std.proofs.Common.{◌&&◌, refl, ap, sym, subst, arith, min, max, w64, pow_mono, pow_pos, pow-add, ⊎_elim, ◌⊎◌}
use Rattle.std.proofs.Common.{inl, inr, true≢false}
use Rattle.std.specs.Prelude.{bit_and, bit_or, ◌==◌, if◌then◌else◌}
use Rattle.std.specs.Int.{bit_at, bit_not}
use Rattle.std.proofs.lemmas.Bool.{cases_lt, cases_Bool, cond-true, cond-false}
use Rattle.std.proofs.lemmas.Nat.{shl_whole, or_shifted, mul-add-lt}
use Rattle.std.proofs.lemmas.Nat.Bits.{bit_at-suc, bit_at-zero, bit_at_or, bit_at_ones, bit_at-lt, bit_at_above, bit_at_cat_low, bit_at_cat_high, bit_at_not}
use Rattle.chain_theory.specs.Operator.{digit}
use Rattle.lane_sim.specs.Seen.{AreSeen, IsRowCount}
use Rattle.op_basis.specs.WordOperatorLaws.{digit_and}
use Rattle.lane_sim.specs.WordLaws.{some_bit}
use Rattle.lane_sim.specs.Words.{width_of}

-- ---- powers

pub above_zero : (k : ℕ) → 0 < 2 ^ k
above_zero k = pow_pos k

pub at_most_32 : (k : ℕ) → k ≤ 5 → 2 ^ k ≤ 32
at_most_32 k few = pow_mono few

-- ---- digits

pub no_digit : (t : ℕ) → digit 0 t ≡ true → ⊥
no_digit t e = true≢false (sym e ∙ ap (λ (x : ℕ). x == 1) (bit_at-zero t))

-- a bit that is 1 is below the number's length
pub digit_below : (n k t : ℕ) → n < 2 ^ k → digit n t ≡ true → t < k
digit_below n k t low e =
    ⊎_elim
    (λ (within : t < k). within)
    (λ (past : k ≤ t). absurd (true≢false (sym e ∙ ap (λ (x : ℕ). x == 1) (bit_at_above n k t low past))))
    (cases_lt t k)

pub digit_one : (t : ℕ) → digit 1 t ≡ true → t ≡ 0
digit_one zero e = refl
digit_one (suc t) e = absurd (no_digit t (sym (ap (λ (x : ℕ). x == 1) (bit_at-suc 1 t)) ∙ e))

not_bits : (x : ℕ) → x < 2 → (1 - x == 1) ≡ not (x == 1)
not_bits zero low = refl
not_bits (suc zero) low = refl
not_bits (suc (suc x)) low = absurd (omega (arith, low))

pub digit_not : (n i : ℕ) → n < 2 ^ 64 → i < 64 → digit (bit_not w64 n) i ≡ not (digit n i)
digit_not n i low within = ap (λ (x : ℕ). x == 1) (bit_at_not w64 n i low within) ∙ not_bits (bit_at n i) (bit_at-lt n i)

pub both_true : (a b : Bool) → (a && b) ≡ true → (a ≡ true) × (b ≡ true)
both_true true true e = (refl, refl)
both_true true false e = absurd (true≢false (sym e))
both_true false b e = absurd (true≢false (sym e))

or_bits : (x y : ℕ) → x < 2 → y < 2 → (max x y == 1) ≡ true → ((x == 1) ≡ true) ⊎ ((y == 1) ≡ true)
or_bits zero zero lx ly e = absurd (true≢false (sym e))
or_bits zero (suc zero) lx ly e = inr refl
or_bits (suc zero) y lx ly e = inl refl
or_bits (suc (suc x)) y lx ly e = absurd (omega (arith, lx))
or_bits zero (suc (suc y)) lx ly e = absurd (omega (arith, ly))

pub digit_or : (a b t : ℕ) → digit (bit_or a b) t ≡ true → (digit a t ≡ true) ⊎ (digit b t ≡ true)
digit_or a b t e = or_bits (bit_at a t) (bit_at b t) (bit_at-lt a t) (bit_at-lt b t) (sym (ap (λ (x : ℕ). x == 1) (bit_at_or a b t)) ∙ e)

or_left_bits : (x y : ℕ) → x < 2 → y < 2 → (x == 1) ≡ true → (max x y == 1) ≡ true
or_left_bits zero y lx ly e = absurd (true≢false (sym e))
or_left_bits (suc zero) zero lx ly e = refl
or_left_bits (suc zero) (suc zero) lx ly e = refl
or_left_bits (suc (suc x)) y lx ly e = absurd (omega (arith, lx))
or_left_bits (suc zero) (suc (suc y)) lx ly e = absurd (omega (arith, ly))

or_right_bits : (x y : ℕ) → x < 2 → y < 2 → (y == 1) ≡ true → (max x y == 1) ≡ true
or_right_bits x zero lx ly e = absurd (true≢false (sym e))
or_right_bits zero (suc zero) lx ly e = refl
or_right_bits (suc zero) (suc zero) lx ly e = refl
or_right_bits (suc (suc x)) y lx ly e = absurd (omega (arith, lx))
or_right_bits x (suc (suc y)) lx ly e = absurd (omega (arith, ly))

pub digit_or_left : (a b t : ℕ) → digit a t ≡ true → digit (bit_or a b) t ≡ true
digit_or_left a b t e = ap (λ (x : ℕ). x == 1) (bit_at_or a b t) ∙ or_left_bits (bit_at a t) (bit_at b t) (bit_at-lt a t) (bit_at-lt b t) e

pub digit_or_right : (a b t : ℕ) → digit b t ≡ true → digit (bit_or a b) t ≡ true
digit_or_right a b t e = ap (λ (x : ℕ). x == 1) (bit_at_or a b t) ∙ or_right_bits (bit_at a t) (bit_at b t) (bit_at-lt a t) (bit_at-lt b t) e

-- ---- one word

pub seen_end : (at : ℕ → ℕ) (mask : ℕ) → mask ≢ 0 → mask < 2 ^ 64 → ((b : ℕ) → at b ≡ 0) → AreSeen 0 at mask 1
seen_end at mask some low zero_at =
    let one = some_bit 64 mask low some in
    record {
      low = omega arith;
      only = λ t e. (one.0, one.1, one.2, zero_at one.0 ∙ sym (digit_one t e));
      all = λ b low_b e. ap (digit 1) (zero_at b);
    }

pub zero_plus : (n : ℕ) → 0 + n ≡ n
zero_plus n = omega arith

-- splitting by a signal, which is the next bit of the pattern
pub seen_split : (n : ℕ) (at at' : ℕ → ℕ) (mask word high low : ℕ) → n ≤ 5 → word < 2 ^ 64 → ((b : ℕ) → at' b ≡ (if digit word b then 2 ^ n else 0) + at b)
    → AreSeen n at (bit_and mask word) high → AreSeen n at (bit_and mask (bit_not w64 word)) low → AreSeen (n + 1) at' mask (bit_or (high * 2 ^ 2 ^ n % 2 ^ 64) low)
seen_split n at at' mask word high low few fits split is_high is_low =
    let step : ℕ = 2 ^ n in
    let small : step ≤ 32 = at_most_32 n few in
    let twice : 2 ^ (n + 1) ≡ step + step = omega (arith, pow-add 2 n 1) in
    let sum : bit_or (high * 2 ^ step % 2 ^ 64) low ≡ high * 2 ^ step + low =
    ap (λ (x : ℕ). bit_or x low) (shl_whole high step step 64 is_high.low (omega (arith, small))) ∙ or_shifted high step low is_low.low in
    let below : high * 2 ^ step + low < 2 ^ 2 ^ (n + 1) = subst (λ (k : ℕ). high * 2 ^ step + low < 2 ^ k) (sym twice)
    (subst (λ (x : ℕ). high * 2 ^ step + low < x) (sym (pow-add 2 step step)) (mul-add-lt high (2 ^ step) low (2 ^ step) is_high.low is_low.low)) in
    let whole : AreSeen (n + 1) at' mask (high * 2 ^ step + low) = record {
      low = below;
      only = λ t e.
          ⊎_elim
          (λ (lower : t < step).
          let r = is_low.only t (sym (ap (λ (x : ℕ). x == 1) (bit_at_cat_low high step low t lower)) ∙ e) in
          let parts : (digit mask r.0 ≡ true) × (digit (bit_not w64 word) r.0 ≡ true) = both_true _ _ (sym (digit_and mask (bit_not w64 word) r.0) ∙ r.2) in
          let off : digit word r.0 ≡ false = was_false (digit word r.0) (sym (digit_not word r.0 fits r.1) ∙ parts.1) in
          (r.0, r.1, parts.0, split r.0 ∙ ap (λ (x : ℕ). x + at r.0) (cond-false (digit word r.0) step 0 off) ∙ zero_plus (at r.0) ∙ r.3))
          (λ (upper : step ≤ t).
          let r = is_high.only (t - step) (sym (ap (λ (x : ℕ). x == 1) (bit_at_cat_high high step low t is_low.low upper)) ∙ e) in
          let parts : (digit mask r.0 ≡ true) × (digit word r.0 ≡ true) = both_true _ _ (sym (digit_and mask word r.0) ∙ r.2) in
          let back : step + (t - step) ≡ t = omega (arith, upper) in
          (r.0, r.1, parts.0, split r.0 ∙ ap (λ (x : ℕ). x + at r.0) (cond-true (digit word r.0) step 0 parts.1) ∙ ap (λ (x : ℕ). step + x) r.3 ∙ back))
          (cases_lt t step);
      all = λ b low_b e.
          ⊎_elim
          (λ (on : digit word b ≡ true).
          let h : digit high (at b) ≡ true = is_high.all b low_b (digit_and mask word b ∙ and_true (digit mask b) (digit word b) e on) in
          let node : at' b ≡ step + at b = split b ∙ ap (λ (x : ℕ). x + at b) (cond-true (digit word b) step 0 on) in
          let back : step + at b - step ≡ at b = omega arith in
          ap (digit (high * 2 ^ step + low)) node
          ∙ ap (λ (x : ℕ). x == 1) (bit_at_cat_high high step low (step + at b) is_low.low (omega arith))
          ∙ ap (digit high) back
          ∙ h)
          (λ (off : digit word b ≡ false).
          let l : digit low (at b) ≡ true = is_low.all b low_b (digit_and mask (bit_not w64 word) b
          ∙ and_true (digit mask b) (digit (bit_not w64 word) b) e (digit_not word b fits low_b ∙ ap not off)) in
          let node : at' b ≡ at b = split b ∙ ap (λ (x : ℕ). x + at b) (cond-false (digit word b) step 0 off) ∙ zero_plus (at b) in
          ap (digit (high * 2 ^ step + low)) node
          ∙ ap (λ (x : ℕ). x == 1) (bit_at_cat_low high step low (at b) (digit_below low step (at b) is_low.low l))
          ∙ l)
          (cases_Bool (digit word b));
    } in
    subst (AreSeen (n + 1) at' mask) (sym sum) whole
  where
    was_false : (b : Bool) → not b ≡ true → b ≡ false
    was_false true e = absurd (true≢false (sym e))
    was_false false e = refl

    and_true : (a b : Bool) → a ≡ true → b ≡ true → (a && b) ≡ true
    and_true true b ea eb = eb
    and_true false b ea eb = absurd (true≢false (sym ea))

-- ---- the mask of a word

-- the mask of a word has a bit for each of its assignments
pub mask_only : (rows count b : ℕ) → IsRowCount rows → count < width_of rows → b < 64 → digit (2 ^ min rows 64 - 1) b ≡ true → 64 * count + b < rows
mask_only rows count b are within low e =
    ⊎_elim
    (λ (less : rows < 64).
    let m : min rows 64 ≡ rows = omega (arith, less) in
    let here : b < rows = digit_below (2 ^ rows - 1) rows b (omega (arith, above_zero rows)) (ap (λ (k : ℕ). digit (2 ^ k - 1) b) (sym m) ∙ e) in
    omega (arith, here, less, within))
    (λ (more : 64 ≤ rows). omega (arith, more, are.whole more, within, low))
    (cases_lt rows 64)

pub mask_all : (rows count b : ℕ) → b < 64 → 64 * count + b < rows → digit (2 ^ min rows 64 - 1) b ≡ true
mask_all rows count b low within = ap (λ (x : ℕ). x == 1) (bit_at_ones (min rows 64) b (omega (arith, low, within)))
