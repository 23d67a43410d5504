-- Patterns in four words at a time.
use Rattle.std.proofs.Common.{◌≡◌, ◌∙◌, ℕ, zero, suc, ◌+◌, ◌-◌, ◌*◌, ◌%◌, ◌^◌, ◌≤◌, ◌<◌, ◌≢◌, Bool, true, false, not}
use Rattle.std.proofs.Common.{◌&&◌, List, [], ◌∷◌, length, refl, ap, sym, subst, arith, w64, pow-add, ⊎_elim}
use Rattle.std.proofs.Common.{true≢false}
use Rattle.std.specs.Prelude.{bit_and, bit_or, ◌==◌, if◌then◌else◌}
use Rattle.std.specs.Int.{bit_not}
use Rattle.std.proofs.lemmas.Bool.{cases_lt, cases_Bool, cond-true, cond-false}
use Rattle.std.proofs.lemmas.Nat.{shl_whole, or_shifted, or_lt, mul-add-lt}
use Rattle.std.proofs.lemmas.Nat.Bits.{bit_at_cat_low, bit_at_cat_high}
use Rattle.chain_theory.specs.Operator.{digit}
use Rattle.lane_sim.specs.declared.rows.Operand.{Operand}
use Rattle.lane_sim.specs.Combining.{operand_word}
use Rattle.lane_sim.specs.PatternLaws.{at_nothing, at_one_more}
use Rattle.lane_sim.specs.Seen.{pattern_at, four_of, AreSeenFour}
use Rattle.lane_sim.specs.SeenLaws.{above_zero, at_most_32, no_digit, digit_below, digit_not, digit_one, digit_or, digit_or_left, digit_or_right, both_true, zero_plus}
use Rattle.lane_sim.specs.ShownLaws.{step_is}
use Rattle.op_basis.specs.WordOperatorLaws.{digit_and}
use Rattle.lane_sim.specs.WordLaws.{some_bit}

-- ---- one of four

-- a bit of one of four words is a bit of their OR
pub or_has : (a b c d l t : ℕ) → digit (four_of a b c d l) t ≡ true → digit (bit_or (bit_or (bit_or a b) c) d) t ≡ true
or_has a b c d zero t e = digit_or_left (bit_or (bit_or a b) c) d t (digit_or_left (bit_or a b) c t (digit_or_left a b t e))
or_has a b c d (suc zero) t e = digit_or_left (bit_or (bit_or a b) c) d t (digit_or_left (bit_or a b) c t (digit_or_right a b t e))
or_has a b c d (suc (suc zero)) t e = digit_or_left (bit_or (bit_or a b) c) d t (digit_or_right (bit_or a b) c t e)
or_has a b c d (suc (suc (suc l))) t e = digit_or_right (bit_or (bit_or a b) c) d t e

abbrev IsOneOf : ℕ → ℕ → ℕ → ℕ → ℕ → Type 0
IsOneOf a b c d t = (l : ℕ) × (l < 4) × (digit (four_of a b c d l) t ≡ true)

one_of : (a b c d t l : ℕ) → l < 4 → digit (four_of a b c d l) t ≡ true → IsOneOf a b c d t
one_of a b c d t l low e = (l, low, e)

-- and a bit of the OR is a bit of one of them
or_from : (a b c d t : ℕ) → digit (bit_or (bit_or (bit_or a b) c) d) t ≡ true → IsOneOf a b c d t
or_from a b c d t e =
    ⊎_elim
    (λ (abc : digit (bit_or (bit_or a b) c) t ≡ true).
    ⊎_elim
    (λ (ab : digit (bit_or a b) t ≡ true).
    ⊎_elim
    (λ (in_a : digit a t ≡ true). one_of a b c d t 0 (omega arith) in_a)
    (λ (in_b : digit b t ≡ true). one_of a b c d t 1 (omega arith) in_b)
    (digit_or a b t ab))
    (λ (in_c : digit c t ≡ true). one_of a b c d t 2 (omega arith) in_c)
    (digit_or (bit_or a b) c t abc))
    (λ (in_d : digit d t ≡ true). one_of a b c d t 3 (omega arith) in_d)
    (digit_or (bit_or (bit_or a b) c) d t e)

-- AND of the words at one index of two groups of four
each_and : (a b c d x y z w l : ℕ) → bit_and (four_of a b c d l) (four_of x y z w l) ≡ four_of (bit_and a x) (bit_and b y) (bit_and c z) (bit_and d w) l
each_and a b c d x y z w zero = refl
each_and a b c d x y z w (suc zero) = refl
each_and a b c d x y z w (suc (suc zero)) = refl
each_and a b c d x y z w (suc (suc (suc l))) = refl

each_and_not : (a b c d x y z w l : ℕ) → bit_and (four_of a b c d l) (bit_not w64 (four_of x y z w l)) ≡
    four_of (bit_and a (bit_not w64 x)) (bit_and b (bit_not w64 y)) (bit_and c (bit_not w64 z))
    (bit_and d (bit_not w64 w)) l
each_and_not a b c d x y z w zero = refl
each_and_not a b c d x y z w (suc zero) = refl
each_and_not a b c d x y z w (suc (suc zero)) = refl
each_and_not a b c d x y z w (suc (suc (suc l))) = refl

each_fits : (x y z w l : ℕ) → x < 2 ^ 64 → y < 2 ^ 64 → z < 2 ^ 64 → w < 2 ^ 64 → four_of x y z w l < 2 ^ 64
each_fits x y z w zero fx fy fz fw = fx
each_fits x y z w (suc zero) fx fy fz fw = fy
each_fits x y z w (suc (suc zero)) fx fy fz fw = fz
each_fits x y z w (suc (suc (suc l))) fx fy fz fw = fw

plus_none : (j : ℕ) → j + 0 ≡ j
plus_none j = omega arith

-- the words of an operand
pub each_word : (f : ℕ → ℕ) (j x y z w l : ℕ) → x ≡ f j → y ≡ f (j + 1) → z ≡ f (j + 2) → w ≡ f (j + 3) → l < 4 → four_of x y z w l ≡ f (j + l)
each_word f j x y z w zero ex ey ez ew low = ex ∙ ap f (sym (plus_none j))
each_word f j x y z w (suc zero) ex ey ez ew low = ey
each_word f j x y z w (suc (suc zero)) ex ey ez ew low = ez
each_word f j x y z w (suc (suc (suc zero))) ex ey ez ew low = ew
each_word f j x y z w (suc (suc (suc (suc l)))) ex ey ez ew low = absurd (omega (arith, low))

-- ---- the steps of the search

pub four_alike : (n : ℕ) (at : ℕ → ℕ → ℕ) (j : ℕ) (masks masks' : ℕ → ℕ) (seen : ℕ) → ((l : ℕ) → masks l ≡ masks' l) → AreSeenFour n at j masks seen → AreSeenFour n at j masks' seen
four_alike n at j masks masks' seen same are = record {
  low = are.low;
  only = λ t e. let r = are.only t e in (r.0, r.1, r.2, r.3, ap (λ (m : ℕ). digit m r.1) (sym (same r.0)) ∙ r.4, r.5);
  all = λ l b low_l low_b e. are.all l b low_l low_b (ap (λ (m : ℕ). digit m b) (same l) ∙ e);
}

pub four_none : (n : ℕ) (at : ℕ → ℕ → ℕ) (j a b c d : ℕ) → bit_or (bit_or (bit_or a b) c) d ≡ 0 → AreSeenFour n at j (four_of a b c d) 0
four_none n at j a b c d none = record {
  low = above_zero (2 ^ n);
  only = λ t e. absurd (no_digit t e);
  all = λ l t low_l low_t e. absurd (no_digit t (ap (λ (m : ℕ). digit m t) (sym none) ∙ or_has a b c d l t e));
}

four_end : (at : ℕ → ℕ → ℕ) (j a b c d : ℕ) → bit_or (bit_or (bit_or a b) c) d ≢ 0 → bit_or (bit_or (bit_or a b) c) d < 2 ^ 64 → ((k t : ℕ) → at k t ≡ 0) → AreSeenFour 0 at j (four_of a b c d) 1
four_end at j a b c d some low zero_at =
    let bit = some_bit 64 (bit_or (bit_or (bit_or a b) c) d) low some in
    let one : IsOneOf a b c d bit.0 = or_from a b c d bit.0 bit.2 in
    record {
      low = omega arith;
      only = λ t e. (one.0, bit.0, one.1, bit.1, one.2, zero_at (j + one.0) bit.0 ∙ sym (digit_one t e));
      all = λ l b low_l low_b e. ap (digit 1) (zero_at (j + l) b);
    }

-- splitting by a signal, which is the next bit of the pattern
four_split : (n : ℕ) (at at' : ℕ → ℕ → ℕ) (j : ℕ) (masks words : ℕ → ℕ) (high low : ℕ) → n ≤ 5 →
    ((l : ℕ) → words l < 2 ^ 64) → ((l b : ℕ) → l < 4 →
    at' (j + l) b ≡ (if digit (words l) b then 2 ^ n else 0) + at (j + l) b)
    → AreSeenFour n at j (λ l. bit_and (masks l) (words l)) high →
    AreSeenFour n at j (λ l. bit_and (masks l) (bit_not w64 (words l))) low →
    AreSeenFour (n + 1) at' j masks (bit_or (high * 2 ^ 2 ^ n % 2 ^ 64) low)
four_split n at at' j masks words high low few fits split is_high is_low =
    let step : ℕ = 2 ^ n in
    let small : step ≤ 32 = at_most_32 n few in
    let twice : 2 ^ (n + 1) ≡ step + step = omega (arith, pow-add 2 n 1) in
    let sum : bit_or (high * 2 ^ step % 2 ^ 64) low ≡ high * 2 ^ step + low =
    ap (λ (x : ℕ). bit_or x low) (shl_whole high step step 64 is_high.low (omega (arith, small))) ∙ or_shifted high step low is_low.low in
    let below : high * 2 ^ step + low < 2 ^ 2 ^ (n + 1) = subst (λ (k : ℕ). high * 2 ^ step + low < 2 ^ k) (sym twice)
    (subst (λ (x : ℕ). high * 2 ^ step + low < x) (sym (pow-add 2 step step)) (mul-add-lt high (2 ^ step) low (2 ^ step) is_high.low is_low.low)) in
    let whole : AreSeenFour (n + 1) at' j masks (high * 2 ^ step + low) = record {
      low = below;
      only = λ t e.
          ⊎_elim
          (λ (lower : t < step).
          let r = is_low.only t (sym (ap (λ (x : ℕ). x == 1) (bit_at_cat_low high step low t lower)) ∙ e) in
          let parts : (digit (masks r.0) r.1 ≡ true) × (digit (bit_not w64 (words r.0)) r.1 ≡ true) = both_true _ _ (sym (digit_and (masks r.0) (bit_not w64 (words r.0)) r.1) ∙ r.4) in
          let off : digit (words r.0) r.1 ≡ false = was_false (digit (words r.0) r.1) (sym (digit_not (words r.0) r.1 (fits r.0) r.3) ∙ parts.1) in
          (r.0, r.1, r.2, r.3, parts.0, split r.0 r.1 r.2 ∙ ap (λ (x : ℕ). x + at (j + r.0) r.1) (cond-false (digit (words r.0) r.1) step 0 off) ∙ zero_plus (at (j + r.0) r.1) ∙ r.5))
          (λ (upper : step ≤ t).
          let r = is_high.only (t - step) (sym (ap (λ (x : ℕ). x == 1) (bit_at_cat_high high step low t is_low.low upper)) ∙ e) in
          let parts : (digit (masks r.0) r.1 ≡ true) × (digit (words r.0) r.1 ≡ true) = both_true _ _ (sym (digit_and (masks r.0) (words r.0) r.1) ∙ r.4) in
          let back : step + (t - step) ≡ t = omega (arith, upper) in
          (r.0, r.1, r.2, r.3, parts.0, split r.0 r.1 r.2 ∙ ap (λ (x : ℕ). x + at (j + r.0) r.1) (cond-true (digit (words r.0) r.1) step 0 parts.1) ∙ ap (λ (x : ℕ). step + x) r.5 ∙ back))
          (cases_lt t step);
      all = λ l b low_l low_b e.
          ⊎_elim
          (λ (on : digit (words l) b ≡ true).
          let h : digit high (at (j + l) b) ≡ true = is_high.all l b low_l low_b (digit_and (masks l) (words l) b ∙ and_true (digit (masks l) b) (digit (words l) b) e on) in
          let node : at' (j + l) b ≡ step + at (j + l) b = split l b low_l ∙ ap (λ (x : ℕ). x + at (j + l) b) (cond-true (digit (words l) b) step 0 on) in
          let back : step + at (j + l) b - step ≡ at (j + l) b = omega arith in
          ap (digit (high * 2 ^ step + low)) node
          ∙ ap (λ (x : ℕ). x == 1) (bit_at_cat_high high step low (step + at (j + l) b) is_low.low (omega arith))
          ∙ ap (digit high) back
          ∙ h)
          (λ (off : digit (words l) b ≡ false).
          let lower : digit low (at (j + l) b) ≡ true =
          is_low.all l b low_l low_b (digit_and (masks l) (bit_not w64 (words l)) b
          ∙ and_true (digit (masks l) b) (digit (bit_not w64 (words l)) b) e (digit_not (words l) b (fits l) low_b
          ∙ ap not off)) in
          let node : at' (j + l) b ≡ at (j + l) b = split l b low_l ∙ ap (λ (x : ℕ). x + at (j + l) b) (cond-false (digit (words l) b) step 0 off) ∙ zero_plus (at (j + l) b) in
          ap (digit (high * 2 ^ step + low)) node
          ∙ ap (λ (x : ℕ). x == 1) (bit_at_cat_low high step low (at (j + l) b) (digit_below low step (at (j + l) b) is_low.low lower))
          ∙ lower)
          (cases_Bool (digit (words l) b));
    } in
    subst (AreSeenFour (n + 1) at' j masks) (sym sum) whole
  where
    was_false : (b : Bool) → not b ≡ true → b ≡ false
    was_false true e = absurd (true≢false (sym e))
    was_false false e = refl

    and_true : (a b : Bool) → a ≡ true → b ≡ true → (a && b) ≡ true
    and_true true b ea eb = eb
    and_true false b ea eb = absurd (true≢false (sym ea))

-- splitting the four masks by the first operand's four words
pub four_first : (lanes : List ℕ) (os : List Operand) (o : Operand) (rest : List Operand) (j a b c d x y z w high low : ℕ) → os ≡ o ∷ rest → length os ≤ 6
    → x ≡ operand_word lanes o j → y ≡ operand_word lanes o (j + 1) → z ≡ operand_word lanes o (j + 2) → w ≡ operand_word lanes o (j + 3)
    → x < 2 ^ 64 → y < 2 ^ 64 → z < 2 ^ 64 → w < 2 ^ 64
    → AreSeenFour (length rest) (pattern_at lanes rest) j (four_of (bit_and a x) (bit_and b y) (bit_and c z) (bit_and d w)) high
    → AreSeenFour (length rest) (pattern_at lanes rest) j (four_of (bit_and a (bit_not w64 x)) (bit_and b (bit_not w64 y)) (bit_and c (bit_not w64 z)) (bit_and d (bit_not w64 w))) low
    → AreSeenFour (length os) (pattern_at lanes os) j (four_of a b c d) (bit_or (high * 2 ^ (1 * 2 ^ length rest % 4294967296) % 18446744073709551616) low)
four_first lanes os o rest j a b c d x y z w high low parts few ex ey ez ew fx fy fz fw is_high is_low =
    let count : length os ≡ length rest + 1 = ap length parts ∙ omega arith in
    let split : (l t : ℕ) → l < 4 → pattern_at lanes os (j + l) t ≡ (if digit (four_of x y z w l) t then 2 ^ length rest else 0) + pattern_at lanes rest (j + l) t =
    λ l t low_l. at_one_more lanes os o rest (j + l) t parts
    ∙ ap (λ (k : ℕ). (if digit k t then 2 ^ length rest else 0) + pattern_at lanes rest (j + l) t)
    (sym (each_word (operand_word lanes o) j x y z w l ex ey ez ew low_l)) in
    subst (λ (k : ℕ). AreSeenFour (length os) (pattern_at lanes os) j (four_of a b c d) (bit_or (high * 2 ^ k % 18446744073709551616) low)) (sym (step_is (length rest) (omega (arith, few, count))))
    (subst (λ (n : ℕ). AreSeenFour n (pattern_at lanes os) j (four_of a b c d) (bit_or (high * 2 ^ 2 ^ length rest % 18446744073709551616) low)) (sym count)
    (four_split (length rest) (pattern_at lanes rest) (pattern_at lanes os) j (four_of a b c d) (four_of x y z w) high low (omega (arith, few, count)) (λ l. each_fits x y z w l fx fy fz fw) split
    (four_alike (length rest) (pattern_at lanes rest) j
    (four_of (bit_and a x) (bit_and b y) (bit_and c z) (bit_and d w))
    (λ l. bit_and (four_of a b c d l) (four_of x y z w l)) high (λ l. sym (each_and a b c d x y z w l)) is_high)
    (four_alike (length rest) (pattern_at lanes rest) j
    (four_of (bit_and a (bit_not w64 x)) (bit_and b (bit_not w64 y)) (bit_and c (bit_not w64 z))
    (bit_and d (bit_not w64 w))) (λ l. bit_and (four_of a b c d l) (bit_not w64 (four_of x y z w l))) low
    (λ l. sym (each_and_not a b c d x y z w l)) is_low)))

empty : (os : List Operand) → length os ≡ 0 → os ≡ []
empty [] e = refl
empty (o ∷ os) e = absurd (omega (arith, e))

or_fits : (a b c d : ℕ) → a < 2 ^ 64 → b < 2 ^ 64 → c < 2 ^ 64 → d < 2 ^ 64 → bit_or (bit_or (bit_or a b) c) d < 2 ^ 64
or_fits a b c d fa fb fc fd = or_lt 64 (bit_or (bit_or a b) c) d (or_lt 64 (bit_or a b) c (or_lt 64 a b fa fb) fc) fd

pub four_nothing : (lanes : List ℕ) (os : List Operand) (j a b c d : ℕ) → length os ≡ 0 →
    bit_or (bit_or (bit_or a b) c) d ≢ 0 → a < 2 ^ 64 → b < 2 ^ 64 → c < 2 ^ 64 → d < 2 ^ 64 →
    AreSeenFour (length os) (pattern_at lanes os) j (four_of a b c d) 1
four_nothing lanes os j a b c d none some fa fb fc fd =
    subst (λ (n : ℕ). AreSeenFour n (pattern_at lanes os) j (four_of a b c d) 1) (sym none)
    (four_end (pattern_at lanes os) j a b c d some (or_fits a b c d fa fb fc fd)
    (λ k t. at_nothing lanes os k t (empty os none)))

-- the words of an operand under one mask
pub each_masked : (f : ℕ → ℕ) (mask j x y z w l : ℕ) → x ≡ f j → y ≡ f (j + 1) → z ≡ f (j + 2) → w ≡ f (j + 3) →
    l < 4 → four_of (bit_and mask x) (bit_and mask y) (bit_and mask z) (bit_and mask w) l ≡ bit_and mask (f (j + l))
each_masked f mask j x y z w l ex ey ez ew low =
    each_word (λ (k : ℕ). bit_and mask (f k)) j (bit_and mask x) (bit_and mask y) (bit_and mask z) (bit_and mask w) l
    (ap (bit_and mask) ex) (ap (bit_and mask) ey) (ap (bit_and mask) ez) (ap (bit_and mask) ew) low
