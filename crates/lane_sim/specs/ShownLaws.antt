-- The steps of the search for patterns, over operands.
use Rattle.std.proofs.Common.{◌≡◌, ◌∙◌, ℕ, ◌+◌, ◌*◌, ◌%◌, ◌^◌, ◌≤◌, ◌<◌, ◌≢◌, List, [], ◌∷◌, length, take, refl, ap, sym, subst, arith, w64, pow_mono}
use Rattle.std.specs.Prelude.{bit_and, bit_or, if◌then◌else◌}
use Rattle.std.specs.Int.{bit_not}
use Rattle.std.proofs.lemmas.Nat.{one_shl}
use Rattle.chain_theory.specs.Operator.{digit}
use Rattle.net_theory.specs.declared.data.Sig.{Sig}
use Rattle.lane_sim.specs.declared.rows.Operand.{Operand}
use Rattle.lane_sim.specs.Cone.{Cone, nodes}
use Rattle.lane_sim.specs.Combining.{operand_word}
use Rattle.lane_sim.specs.PatternLaws.{at_nothing, at_one_more, used_end}
use Rattle.lane_sim.specs.Seen.{pattern_at, AreSeen, AllEnd, AreOperands}
use Rattle.lane_sim.specs.SeenLaws.{seen_end, seen_split}
use Rattle.lane_sim.specs.Words.{Words, AreWords, width_of}

pub step_is : (n : ℕ) → n ≤ 6 → 1 * 2 ^ n % 4294967296 ≡ 2 ^ n
step_is n few = one_shl n 32 (omega (arith, few))

empty : (os : List Operand) → length os ≡ 0 → os ≡ []
empty [] e = refl
empty (o ∷ os) e = absurd (omega (arith, e))

pub seen_nothing : (lanes : List ℕ) (os : List Operand) (j mask : ℕ) → length os ≡ 0 → mask ≢ 0 → mask < 2 ^ 64 → AreSeen (length os) (pattern_at lanes os j) mask 1
seen_nothing lanes os j mask none some low =
    subst (λ (n : ℕ). AreSeen n (pattern_at lanes os j) mask 1) (sym none) (seen_end (pattern_at lanes os j) mask some low (λ b. at_nothing lanes os j b (empty os none)))

pub seen_first : (lanes : List ℕ) (os : List Operand) (o : Operand) (rest : List Operand) (j mask word high low : ℕ) → os ≡ o ∷ rest → length os ≤ 6 → word ≡ operand_word lanes o j → word < 2 ^ 64
    → AreSeen (length rest) (pattern_at lanes rest j) (bit_and mask word) high → AreSeen (length rest) (pattern_at lanes rest j) (bit_and mask (bit_not w64 word)) low
    → AreSeen (length os) (pattern_at lanes os j) mask (bit_or (high * 2 ^ (1 * 2 ^ length rest % 4294967296) % 18446744073709551616) low)
seen_first lanes os o rest j mask word high low parts few word_is fits is_high is_low =
    let count : length os ≡ length rest + 1 = ap length parts ∙ omega arith in
    let split : (b : ℕ) → pattern_at lanes os j b ≡ (if digit word b then 2 ^ length rest else 0) + pattern_at lanes rest j b =
    λ b. at_one_more lanes os o rest j b parts ∙ ap (λ (w : ℕ). (if digit w b then 2 ^ length rest else 0) + pattern_at lanes rest j b) (sym word_is) in
    subst (λ (k : ℕ). AreSeen (length os) (pattern_at lanes os j) mask (bit_or (high * 2 ^ k % 18446744073709551616) low)) (sym (step_is (length rest) (omega (arith, few, count))))
    (subst (λ (n : ℕ). AreSeen n (pattern_at lanes os j) mask (bit_or (high * 2 ^ 2 ^ length rest % 18446744073709551616) low)) (sym count)
    (seen_split (length rest) (pattern_at lanes rest j) (pattern_at lanes os j) mask word high low (omega (arith, few, count)) fits split is_high is_low))

pub step_few : (n : ℕ) → n ≤ 6 → 1 * 2 ^ n % 4294967296 ≤ 64
step_few n few = omega (arith, step_is n few, most n few) where
  most : (k : ℕ) → k ≤ 6 → 2 ^ k ≤ 2 ^ 6
  most k low = pow_mono low

-- ---- the whole

pub ends_shown : (c : Cone) (w : Words) (signals : List Sig) (os used : List Operand) (lanes : List ℕ)
    (rows width : ℕ) → AreWords c w → rows ≡ w.rows → lanes ≡ w.lanes → width ≡ width_of rows →
    AreOperands (nodes c) width signals (length signals) os → length signals ≤ length os →
    used ≡ take (length signals) os
    → AllEnd (length lanes) (width_of rows) used
ends_shown c w signals os used lanes rows width words rows_is lanes_is width_is given room used_is =
    let are : AreOperands (nodes c) (width_of w.rows) signals (length signals) os =
    subst (λ (n : ℕ). AreOperands (nodes c) n signals (length signals) os) (width_is
    ∙ ap (λ (r : ℕ). width_of r) rows_is) given in
    subst (λ (xs : List Operand). AllEnd (length lanes) (width_of rows) xs) (sym used_is)
    (subst (λ (ls : List ℕ). AllEnd (length ls) (width_of rows) (take (length signals) os)) (sym lanes_is)
    (subst (λ (r : ℕ). AllEnd (length w.lanes) (width_of r) (take (length signals) os)) (sym rows_is) (used_end c w signals os words are room)))
