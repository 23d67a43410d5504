-- The patterns under chosen assignments: the loop over words, and the result for signals.
use Rattle.std.proofs.Common.{◌≡◌, ◌∙◌, ℕ, ◌+◌, ◌-◌, ◌*◌, ◌/◌, ◌%◌, ◌^◌, ◌≤◌, ◌<◌, Bool, true, ◌&&◌, List, length, take, refl, ap, sym, subst, arith, min, ⊎_elim}
use Rattle.std.specs.Prelude.{bit_and, bit_or, slice_index_or, ◌==◌}
use Rattle.std.proofs.lemmas.Bool.{cases_lt}
use Rattle.std.proofs.lemmas.Nat.{or_lt}
use Rattle.std.proofs.lemmas.Nat.Bits.{bit_at_ones}
use Rattle.chain_theory.specs.Operator.{digit}
use Rattle.net_theory.specs.declared.data.Sig.{Sig}
use Rattle.lane_sim.specs.declared.rows.Operand.{Operand}
use Rattle.lane_sim.specs.Chosen.{chosen_at, AreChosenBelow}
use Rattle.lane_sim.specs.Cone.{Cone, nodes}
use Rattle.lane_sim.specs.Combining.{operand_word}
use Rattle.lane_sim.specs.FourLaws.{each_masked}
use Rattle.lane_sim.specs.PatternLaws.{pattern_low, same_pattern}
use Rattle.lane_sim.specs.Seen.{pattern_at, four_of, AreSeen, AreSeenFour, IsRowCount, AreOperands}
use Rattle.lane_sim.specs.SeenLaws.{digit_or, digit_or_left, digit_or_right, mask_only, mask_all, both_true}
use Rattle.lane_sim.specs.ShownLaws.{step_is}
use Rattle.op_basis.specs.WordOperatorLaws.{digit_and}
use Rattle.lane_sim.specs.Words.{Words, AreWords, ArePatterns, ArePatternsOf, pattern_under, width_of}

-- ---- word after word

and_both : (a b : Bool) → a ≡ true → b ≡ true → (a && b) ≡ true
and_both a b ea eb = rw (ea, eb) refl

pub chosen_more : (n : ℕ) (at : ℕ → ℕ → ℕ) (words : List ℕ) (o : Operand) (rows count end seen mask word more : ℕ) →
    IsRowCount rows → count < end → end ≡ width_of rows → mask ≡ 2 ^ min rows 64 - 1 →
    word ≡ operand_word words o count → AreChosenBelow n at (chosen_at words o) rows count seen →
    AreSeen n (at count) (bit_and mask word) more →
    AreChosenBelow n at (chosen_at words o) rows (count + 1) (bit_or seen more)
chosen_more n at words o rows count end seen mask word more are low end_is mask_is word_is before here =
    let within : count < width_of rows = subst (λ (k : ℕ). count < k) end_is low in
    record {
      low = or_lt (2 ^ n) seen more before.low here.low;
      only = λ t e.
          ⊎_elim
          (λ (l : digit seen t ≡ true). before.only t l)
          (λ (r : digit more t ≡ true).
          let x = here.only t r in
          let parts : (digit mask x.0 ≡ true) × (digit word x.0 ≡ true) = both_true _ _ (sym (digit_and mask word x.0) ∙ x.2) in
          let row : 64 * count + x.0 < rows = mask_only rows count x.0 are within x.1 (ap (λ (m : ℕ). digit m x.0) (sym mask_is) ∙ parts.0) in
          (count, x.0, x.1, row, ap (λ (m : ℕ). digit m x.0) (sym word_is) ∙ parts.1, x.3))
          (digit_or seen more t e);
      all = λ j b low_j low_b row on.
          ⊎_elim
          (λ (earlier : j < count). digit_or_left seen more (at j b) (before.all j b earlier low_b row on))
          (λ (past : count ≤ j).
          let same : j ≡ count = omega arith in
          let row_here : 64 * count + b < rows = subst (λ (k : ℕ). 64 * k + b < rows) same row in
          let in_mask : digit mask b ≡ true = ap (λ (m : ℕ). digit m b) mask_is ∙ mask_all rows count b low_b row_here in
          let in_word : digit word b ≡ true = ap (λ (m : ℕ). digit m b) word_is ∙ ap (λ (k : ℕ). chosen_at words o k b) (sym same) ∙ on in
          subst (λ (k : ℕ). digit (bit_or seen more) (at k b) ≡ true) (sym same)
          (digit_or_right seen more (at count b) (here.all b low_b (digit_and mask word b ∙ and_both (digit mask b) (digit word b) in_mask in_word))))
          (cases_lt j count);
    }

pub four_more : (n : ℕ) (at : ℕ → ℕ → ℕ) (words : List ℕ) (o : Operand) (rows j end seen mask x y z w more : ℕ) → IsRowCount rows → j + 4 ≤ end → end ≡ width_of rows → mask ≡ 2 ^ min rows 64 - 1
    → x ≡ operand_word words o j → y ≡ operand_word words o (j + 1) → z ≡ operand_word words o (j + 2) → w ≡ operand_word words o (j + 3)
    → AreChosenBelow n at (chosen_at words o) rows j seen →
    AreSeenFour n at j (four_of (bit_and mask x) (bit_and mask y) (bit_and mask z) (bit_and mask w)) more →
    AreChosenBelow n at (chosen_at words o) rows (j + 4) (bit_or seen more)
four_more n at words o rows j end seen mask x y z w more are low end_is mask_is ex ey ez ew before here =
    let within : (l : ℕ) → l < 4 → j + l < width_of rows = λ l low_l. subst (λ (k : ℕ). j + l < k) end_is (omega (arith, low, low_l)) in
    let each : (l : ℕ) → l < 4 → four_of (bit_and mask x) (bit_and mask y) (bit_and mask z) (bit_and mask w) l ≡
    bit_and mask (operand_word words o (j + l)) =
    λ l low_l. each_masked (operand_word words o) mask j x y z w l ex ey ez ew low_l in
    record {
      low = or_lt (2 ^ n) seen more before.low here.low;
      only = λ t e.
          ⊎_elim
          (λ (l : digit seen t ≡ true). before.only t l)
          (λ (r : digit more t ≡ true).
          let i = here.only t r in
          let parts : (digit mask i.1 ≡ true) × (digit (operand_word words o (j + i.0)) i.1 ≡ true) =
          both_true _ _ (sym (digit_and mask (operand_word words o (j + i.0)) i.1)
          ∙ ap (λ (m : ℕ). digit m i.1) (sym (each i.0 i.2)) ∙ i.4) in
          let row : 64 * (j + i.0) + i.1 < rows = mask_only rows (j + i.0) i.1 are (within i.0 i.2) i.3 (ap (λ (m : ℕ). digit m i.1) (sym mask_is) ∙ parts.0) in
          (j + i.0, i.1, i.3, row, parts.1, i.5))
          (digit_or seen more t e);
      all = λ k b low_k low_b row on.
          ⊎_elim
          (λ (earlier : k < j). digit_or_left seen more (at k b) (before.all k b earlier low_b row on))
          (λ (past : j ≤ k).
          let same : k ≡ j + (k - j) = omega (arith, past) in
          let few : k - j < 4 = omega (arith, low_k, past) in
          let row_here : 64 * (j + (k - j)) + b < rows = subst (λ (i : ℕ). 64 * i + b < rows) same row in
          let in_mask : digit mask b ≡ true = ap (λ (m : ℕ). digit m b) mask_is ∙ mask_all rows (j + (k - j)) b low_b row_here in
          let in_word : digit (operand_word words o (j + (k - j))) b ≡ true = ap (λ (i : ℕ). chosen_at words o i b) (sym same) ∙ on in
          let in_both : digit (bit_and mask (operand_word words o (j + (k - j)))) b ≡ true =
          digit_and mask (operand_word words o (j + (k - j))) b
          ∙ and_both (digit mask b) (digit (operand_word words o (j + (k - j))) b) in_mask in_word in
          subst (λ (i : ℕ). digit (bit_or seen more) (at i b) ≡ true) (sym same)
          (digit_or_right seen more (at (j + (k - j)) b) (here.all (k - j) b few low_b (ap (λ (m : ℕ). digit m b) (each (k - j) few) ∙ in_both))))
          (cases_lt k j);
    }

-- once all patterns were seen, further words add none
pub chosen_full : (lanes : List ℕ) (os : List Operand) (when : ℕ → ℕ → Bool) (rows count count' found : ℕ) →
    length os ≤ 6 → found ≡ 2 ^ (1 * 2 ^ length os % 4294967296) - 1 →
    AreChosenBelow (length os) (pattern_at lanes os) when rows count found →
    AreChosenBelow (length os) (pattern_at lanes os) when rows count' found
chosen_full lanes os when rows count count' found few full are =
    let ones : found ≡ 2 ^ 2 ^ length os - 1 = full ∙ ap (λ (k : ℕ). 2 ^ k - 1) (step_is (length os) few) in
    record {
      low = are.low;
      only = are.only;
      all = λ j b low_j low_b row on. ap (λ (x : ℕ). digit x (pattern_at lanes os j b)) ones
          ∙ ap (λ (x : ℕ). x == 1) (bit_at_ones (2 ^ length os) (pattern_at lanes os j b)
          (pattern_low (λ (o : Operand). digit (operand_word lanes o j) b) os));
    }

-- ---- of signals

-- the patterns of the rows are the patterns of the signals
chosen_are : (c : Cone) (w : Words) (signals : List Sig) (os : List Operand) (when : ℕ → ℕ → Bool) (test : ℕ →
    Bool) (n found : ℕ) → AreWords c w → AreOperands (nodes c) (width_of w.rows) signals (length signals) os →
    length signals ≤ length os
    → ((j b : ℕ) → b < 64 → 64 * j + b < w.rows → when j b ≡ test (64 * j + b))
    → AreChosenBelow n (pattern_at w.lanes (take (length signals) os)) when w.rows (width_of w.rows) found → ArePatternsOf c signals test found
chosen_are c w signals os when test n found words are room same seen = record {
  only = λ t e.
      let r = seen.only t e in
      let row : ℕ = 64 * r.0 + r.1 in
      (row, subst (λ (k : ℕ). row < k) words.rows r.3, sym (same r.0 r.1 r.2 r.3) ∙ r.4, sym (same_pattern c w signals os r.0 r.1 words are room r.2 r.3) ∙ r.5);
  all = λ row low on.
      let rows : row < w.rows = subst (λ (k : ℕ). row < k) (sym words.rows) low in
      let whole : 64 * (row / 64) + row % 64 ≡ row = omega arith in
      let few : row % 64 < 64 = omega arith in
      let within : 64 * (row / 64) + row % 64 < w.rows = omega (arith, rows) in
      let e : digit found (pattern_at w.lanes (take (length signals) os) (row / 64) (row % 64)) ≡ true =
      seen.all (row / 64) (row % 64) (omega (arith, rows)) few within (same (row / 64) (row % 64) few within
      ∙ ap test whole ∙ on) in
      ap (λ (k : ℕ). digit found (pattern_under c signals k)) (sym whole)
      ∙ ap (digit found) (sym (same_pattern c w signals os (row / 64) (row % 64) words are room few within))
      ∙ e;
}

pub chosen_shown : (c : Cone) (w : Words) (signals : List Sig) (os used : List Operand) (lanes : List ℕ) (when : ℕ →
    ℕ → Bool) (test : ℕ → Bool) (rows width found : ℕ) → AreWords c w → rows ≡ w.rows → lanes ≡ w.lanes →
    width ≡ width_of rows → AreOperands (nodes c) width signals (length signals) os → length signals ≤ length os →
    used ≡ take (length signals) os
    → ((j b : ℕ) → b < 64 → 64 * j + b < w.rows → when j b ≡ test (64 * j + b))
    → AreChosenBelow (length used) (pattern_at lanes used) when rows (width_of rows) found → ArePatternsOf c signals test found
chosen_shown c w signals os used lanes when test rows width found words rows_is lanes_is width_is given room used_is same seen =
    let are : AreOperands (nodes c) (width_of w.rows) signals (length signals) os =
    subst (λ (n : ℕ). AreOperands (nodes c) n signals (length signals) os) (width_is
    ∙ ap (λ (r : ℕ). width_of r) rows_is) given in
    chosen_are c w signals os when test (length used) found words are room same
    (subst (λ (xs : List Operand). AreChosenBelow (length used) (pattern_at w.lanes xs) when w.rows (width_of w.rows) found) used_is
    (subst (λ (ls : List ℕ). AreChosenBelow (length used) (pattern_at ls used) when w.rows (width_of w.rows) found) lanes_is
    (subst (λ (r : ℕ). AreChosenBelow (length used) (pattern_at lanes used) when r (width_of r) found) rows_is seen)))

-- ---- the rows that choose assignments

-- a row of separate words
pub word_chosen : (chosen : List ℕ) (j b : ℕ) → b < 64 → digit (slice_index_or chosen (0 + j) 0) b ≡ digit (slice_index_or chosen ((64 * j + b) / 64) 0) ((64 * j + b) % 64)
word_chosen chosen j b low =
    let word : 0 + j ≡ (64 * j + b) / 64 = omega (arith, low) in
    let bit : b ≡ (64 * j + b) % 64 = omega (arith, low) in
    ap (λ (k : ℕ). digit (slice_index_or chosen k 0) b) word ∙ ap (digit (slice_index_or chosen ((64 * j + b) / 64) 0)) bit

-- all of them
pub all_chosen : (j b : ℕ) → b < 64 → digit 18446744073709551615 b ≡ true
all_chosen j b low = ap (λ (x : ℕ). x == 1) (bit_at_ones 64 b low)

pub of_all : (c : Cone) (signals : List Sig) (mask : ℕ) → ArePatternsOf c signals (λ row. true) mask → ArePatterns c signals mask
of_all c signals mask are = record {
  only = λ t e. let r = are.only t e in (r.0, r.1, r.3);
  all = λ row low. are.all row low refl;
}
