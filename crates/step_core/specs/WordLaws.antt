-- Words row by row: the values of places, and the values that an output specifies.
use Rattle.std.proofs.Common.{◌≡◌, ◌∙◌, ℕ, zero, suc, ◌+◌, ◌-◌, ◌^◌, ◌≤◌, ◌<◌, Bool, true, false, ◌&&◌, not, List, length, refl, ap, ap₂, sym, arith, inl, inr}
use Rattle.std.specs.Prelude.{bit_and, bit_xor, ◌==◌, slice_index, if◌then◌else◌}
use Rattle.std.specs.Int.{bit_at}
use Rattle.std.proofs.lemmas.Grind.{common_steps}
use Rattle.std.proofs.lemmas.Bool.{cases_lt}
use Rattle.std.proofs.lemmas.Bool.Decides.{nat_tests}
use Rattle.std.proofs.lemmas.Nat.Bits.{bit_at-zero, bit_at-lt, same_from_bits}
use Rattle.chain_theory.specs.Operator.{digit}
use Rattle.chain_theory.specs.Chain.{Step, AreSteps}
use Rattle.chain_theory.specs.Value.{values_on}
use Rattle.chain_laws.specs.Follow.{run, run_below, run_follows, values_are, IsLocal, FollowsAt, AreStepsAt}
use Rattle.chain_theory.specs.Agreement.{is_met}
use Rattle.chain_theory.specs.declared.data.Cell.TheVariants.{Zero, One, Free}
use Rattle.tt_core.specs.Words.{Words, IsSpec, cell_of}
use Rattle.bound_core.specs.CountLaws.{no_digit}
use Rattle.op_basis.specs.WordOperator.{differ, on_words, input_word}
use Rattle.op_basis.specs.WordOperatorLaws.{digit_and, digit_xor, on_words_bit, input_digit}
use Rattle.step_core.specs.Steps.{misses, step_word, word_in}
use Rattle.chain_theory.specs.Limits.{most_inputs}

-- ---- the words of places

-- on a row the word of a place has the place's value
pub word_row : (n t : ℕ) (steps : List Step) (p : ℕ) → n ≤ most_inputs → AreSteps n steps → t < 64 → 1 ≤ p → p ≤ n + length steps → digit (word_in n steps p) t ≡ values_on n t steps p
unfolding word_in
word_row n t steps p few are low from to =
    let at : AreStepsAt (n + 1) steps = record { each = are.each } in
    let local : IsLocal step_word = record { same = λ a b s j k. ap₂ (on_words s.op) j k } in
    let follows : FollowsAt step_word (run step_word (λ q. input_word (n - q)) (n + 1) steps) (n + 1) steps = run_follows step_word local (λ q. input_word (n - q)) (n + 1) steps at in
    sym (values_are n t (λ q. digit (run step_word (λ r. input_word (n - r)) (n + 1) steps q) t) steps are
    (λ q q_from q_to. ap (λ (x : ℕ). digit x t) (run_below step_word (λ r. input_word (n - r)) (n + 1) steps q (omega arith)) ∙ input_digit (n - q) t (omega arith) low)
    (λ i s is. ap (λ (x : ℕ). digit x t) (follows.each i s is)
    ∙ on_words_bit s.op (run step_word (λ r. input_word (n - r)) (n + 1) steps s.j)
    (run step_word (λ r. input_word (n - r)) (n + 1) steps s.k) t low)
    p from (omega arith))

-- ---- outputs that are met

-- on a row, a specified cell is met by its own bit
met_bit : (care on bit : Bool) → (differ bit on && care) ≡ false → is_met (if care then (if on then One else Zero) else Free) bit ≡ true
met_bit false on bit e = refl
met_bit true true true e = refl
met_bit true true false e = absurd cc
met_bit true false true e = absurd cc
met_bit true false false e = refl

bit_met : (care on bit : Bool) → is_met (if care then (if on then One else Zero) else Free) bit ≡ true → (differ bit on && care) ≡ false
bit_met false on true e = grind (arith, common_steps)
bit_met false on false e = grind (arith, common_steps)
bit_met true true true e = refl
bit_met true true false e = absurd cc
bit_met true false true e = absurd cc
bit_met true false false e = refl

missed_digit : (word on care t : ℕ) → digit (bit_and (bit_xor word on) care) t ≡ (differ (digit word t) (digit on t) && digit care t)
missed_digit word on care t = digit_and (bit_xor word on) care t ∙ ap (λ (x : Bool). x && digit care t) (digit_xor word on t)

pub zero_is : (x : ℕ) → not (x == 0) ≡ false → x ≡ 0
zero_is zero e = refl
zero_is (suc x) e = grind (arith, common_steps, nat_tests)

-- a word that doesn't miss an output has each of its specified values
pub not_missed : (w : Words) (word i t : ℕ) → misses w word i ≡ false → is_met (cell_of w (i + 1) t) (digit word t) ≡ true
unfolding misses
not_missed w word i t e =
    let on : ℕ = slice_index w.on i in
    let care : ℕ = slice_index w.care i in
    let same : i + 1 - 1 ≡ i = omega arith in
    let none : bit_and (bit_xor word on) care ≡ 0 = zero_is (bit_and (bit_xor word on) care) e in
    rw same (met_bit (digit care t) (digit on t) (digit word t) (sym (missed_digit word on care t) ∙ ap (λ (x : ℕ). digit x t) none ∙ ap (λ (x : ℕ). x == 1) (bit_at-zero t)))

-- and a word that has them doesn't miss it
pub never_missed : (w : Words) (word i : ℕ) → IsSpec w → ((t : ℕ) → t < 2 ^ w.n → is_met (cell_of w (i + 1) t) (digit word t) ≡ true) → misses w word i ≡ false
unfolding misses
never_missed w word i spec met =
    let on : ℕ = slice_index w.on i in
    let care : ℕ = slice_index w.care i in
    let same : i + 1 - 1 ≡ i = omega arith in
    let rows : ℕ = bit_and (bit_xor word on) care in
    let at : (t : ℕ) → digit rows t ≡ false = λ t. missed_digit word on care t ∙ elim (cases_lt t (2 ^ w.n)) [
      | inl inside ↦ bit_met (digit care t) (digit on t) (digit word t) (rw same at (met t inside))
      | inr past ↦ and_false (differ (digit word t) (digit on t)) (digit care t) (spec.rows i t past)
    ] in
    let none : rows ≡ 0 = same_from_bits rows 0 (λ t. no_digit (bit_at rows t) (bit_at-lt rows t) (at t) ∙ sym (bit_at-zero t)) in
    ap (λ (x : ℕ). not (x == 0)) none
  where
    and_false : (a b : Bool) → b ≡ false → (a && b) ≡ false
    and_false true b e = e
    and_false false b e = refl
