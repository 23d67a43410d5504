-- Missing outputs are determined by the places that further steps read: on rows that have equal values there, all
-- further steps have equal values.
use Rattle.std.proofs.Common.{◌≡◌, ℕ, ◌+◌, ◌-◌, ◌≤◌, ◌<◌, true, false, Bool, ◌&&◌, ◌||◌, not, List, [], ◌∷◌, ◌++◌, length, refl, sym, ap, ◌∙◌, subst, arith, inl, inr}
use Rattle.std.specs.Prelude.{slice_index, bit_and, bit_xor, ◌==◌}
use Rattle.std.proofs.lemmas.Nat.Bits.{bit_at-zero}
use Rattle.std.proofs.lemmas.Bool.{cases_lt, cases_eq, or_left, or_right, both_ways}
use Rattle.std.proofs.lemmas.List.{length_push}
use Rattle.chain_theory.specs.Operator.{Basis, digit, apply}
use Rattle.chain_theory.specs.Chain.{Step, IsStepAt, AreSteps}
use Rattle.op_basis.specs.WordOperator.{differ, on_words}
use Rattle.op_basis.specs.WordOperatorLaws.{digit_and, digit_xor, on_words_bit}
use Rattle.tt_core.specs.Words.{Words}
use Rattle.step_core.specs.Steps.{misses, word_in, is_missing, meets_at}
use Rattle.step_core.specs.Waits.{is_at, has_read, is_later}
use Rattle.step_core.specs.Reads.{IsFreshSolution, ReadExactly, NoneReading, AreInConflict}
use Rattle.step_core.specs.StackLaws.{word_prefix, word_last}
use Rattle.step_core.specs.NormalSolutionLaws.{met_at}
use Rattle.step_core.specs.OutcomeLaws.{append_one, append_nil, get_middle}
use Rattle.step_core.specs.WordLaws.{zero_is}
use Rattle.step_core.specs.WaitLaws.{at_is, met_place}

-- the word of a place has equal bits on the two rows
abbrev pub SameBits : ℕ → ℕ → ℕ → Type 0
SameBits a b word = digit word b ≡ digit word a

-- all places that the rest reads, of those so far, have equal values on the two rows
pub record AreAlike (w : Words) (prefix rest : List Step) (a b : ℕ) : Type 0 where
  pub each : (i : ℕ) → i < w.n + length prefix → is_later rest i ≡ true → SameBits a b (word_in w.n prefix (i + 1))

pub first_read : (s : Step) (rest : List Step) (i : ℕ) → s.j ≡ i + 1 → is_later (s ∷ rest) i ≡ true
unfolding is_later has_read
first_read s rest i e = or_left (is_at s.j i || is_at s.k i) (is_later rest i) (or_left (is_at s.j i) (is_at s.k i) (at_is s.j i (sym e)))

pub second_read : (s : Step) (rest : List Step) (i : ℕ) → s.k ≡ i + 1 → is_later (s ∷ rest) i ≡ true
unfolding is_later has_read
second_read s rest i e = or_left (is_at s.j i || is_at s.k i) (is_later rest i) (or_right (is_at s.j i) (is_at s.k i) (at_is s.k i (sym e)))

pub rest_read : (s : Step) (rest : List Step) (i : ℕ) → is_later rest i ≡ true → is_later (s ∷ rest) i ≡ true
unfolding is_later
rest_read s rest i e = or_right (has_read s i) (is_later rest i) e

-- an operand that is read has equal values
operand : (w : Words) (prefix rest : List Step) (a b p : ℕ) → AreAlike w prefix rest a b → 1 ≤ p → p ≤ w.n + length prefix →
    ((i : ℕ) → p ≡ i + 1 → is_later rest i ≡ true) → SameBits a b (word_in w.n prefix p)
operand w prefix rest a b p alike from to read =
    let own : p - 1 + 1 ≡ p = omega (arith, from) in
    subst (λ (x : ℕ). SameBits a b (word_in w.n prefix x)) own (alike.each (p - 1) (omega (arith, from, to)) (read (p - 1) (sym own)))

-- a step has equal values where its operands have
pub step_same : (op first second a b : ℕ) → a < 64 → b < 64 → SameBits a b first → SameBits a b second → SameBits a b (on_words op first second)
step_same op first second a b low_a low_b same_first same_second =
    on_words_bit op first second b low_b
    ∙ ap (λ (x : Bool). apply op x (digit second b)) same_first
    ∙ ap (λ (x : Bool). apply op (digit first a) x) same_second
    ∙ sym (on_words_bit op first second a low_a)

-- so the next step has equal values
next_alike : (w : Words) (prefix rest : List Step) (s : Step) (a b : ℕ) → a < 64 → b < 64 → IsStepAt (w.n + 1 + length prefix) s →
    AreAlike w prefix (s ∷ rest) a b → SameBits a b (word_in w.n (prefix ++ s ∷ []) (w.n + 1 + length prefix))
next_alike w prefix rest s a b low_a low_b at alike =
    let word : word_in w.n (prefix ++ s ∷ []) (w.n + 1 + length prefix) ≡ on_words s.op (word_in w.n prefix s.j) (word_in w.n prefix s.k) = word_last w.n prefix s (w.n + 1 + length prefix) refl in
    let first : SameBits a b (word_in w.n prefix s.j) = operand w prefix (s ∷ rest) a b s.j alike at.j_from (omega (arith, at.j_below)) (λ i e. first_read s rest i e) in
    let second : SameBits a b (word_in w.n prefix s.k) = operand w prefix (s ∷ rest) a b s.k alike at.k_from (omega (arith, at.k_below)) (λ i e. second_read s rest i e) in
    subst (SameBits a b) (sym word) (step_same s.op (word_in w.n prefix s.j) (word_in w.n prefix s.k) a b low_a low_b first second)

alike_after : (w : Words) (prefix rest : List Step) (s : Step) (a b : ℕ) → a < 64 → b < 64 → IsStepAt (w.n + 1 + length prefix) s →
    AreAlike w prefix (s ∷ rest) a b → AreAlike w (prefix ++ s ∷ []) rest a b
alike_after w prefix rest s a b low_a low_b at alike = record {
  each = λ i low read. elim (cases_lt i (w.n + length prefix)) [
    | inl before ↦ subst (SameBits a b) (sym (word_prefix w.n prefix (s ∷ []) (i + 1) (omega (arith, before)))) (alike.each i before (rest_read s rest i read))
    | inr past ↦
        let same : w.n + 1 + length prefix ≡ i + 1 = omega (arith, past, low, length_push prefix s) in
        subst (λ (x : ℕ). SameBits a b (word_in w.n (prefix ++ s ∷ []) x)) same (next_alike w prefix rest s a b low_a low_b at alike)
  ];
}

-- all further steps have equal values on the two rows
further_alike : (w : Words) (a b : ℕ) → a < 64 → b < 64 → (rest prefix : List Step) → AreSteps w.n (prefix ++ rest) →
    AreAlike w prefix rest a b → (p : ℕ) → w.n + length prefix < p → p ≤ w.n + length (prefix ++ rest) →
    SameBits a b (word_in w.n (prefix ++ rest) p)
further_alike w a b low_a low_b [] prefix are alike p from to =
    absurd (omega (arith, from, to, ap (λ (ss : List Step). length ss) (append_nil prefix)))
further_alike w a b low_a low_b (s ∷ rest) prefix are alike p from to =
    let longer : List Step = prefix ++ s ∷ [] in
    let whole : longer ++ rest ≡ prefix ++ s ∷ rest = append_one prefix s rest in
    let at : IsStepAt (w.n + 1 + length prefix) s = are.each (length prefix) s (get_middle prefix s rest) in
    elim (cases_eq p (w.n + 1 + length prefix)) [
      | inl here ↦
          let word : word_in w.n (prefix ++ s ∷ rest) (w.n + 1 + length prefix) ≡ word_in w.n longer (w.n + 1 + length prefix) =
          ap (λ (ss : List Step). word_in w.n ss (w.n + 1 + length prefix)) (sym whole) ∙ word_prefix w.n longer rest (w.n + 1 + length prefix) (omega (arith, length_push prefix s)) in
          subst (λ (x : ℕ). SameBits a b (word_in w.n (prefix ++ s ∷ rest) x)) (sym here)
          (subst (SameBits a b) (sym word) (next_alike w prefix rest s a b low_a low_b at alike))
      | inr other ↦
          subst (λ (ss : List Step). SameBits a b (word_in w.n ss p)) whole
          (further_alike w a b low_a low_b rest longer (subst (AreSteps w.n) (sym whole) are)
          (alike_after w prefix rest s a b low_a low_b at alike) p
          (omega (arith, from, other, length_push prefix s))
          (omega (arith, to, ap (λ (ss : List Step). length ss) whole)))
    ]

-- ---- a conflict

-- a word with the values of an output has its specified value on a row
pub specified : (w : Words) (word i t : ℕ) → misses w word i ≡ false → digit (slice_index w.care i) t ≡ true → digit word t ≡ digit (slice_index w.on i) t
unfolding misses
specified w word i t has care =
    let on : ℕ = slice_index w.on i in
    let rows : ℕ = bit_and (bit_xor word on) (slice_index w.care i) in
    let none : digit rows t ≡ false = ap (λ (x : ℕ). digit x t) (zero_is rows has) ∙ zero_digit t in
    let parts : (differ (digit word t) (digit on t) && digit (slice_index w.care i) t) ≡ false =
    sym (digit_and (bit_xor word on) (slice_index w.care i) t ∙ ap (λ (x : Bool). x && digit (slice_index w.care i) t) (digit_xor word on t)) ∙ none in
    equal (digit word t) (digit on t) (digit (slice_index w.care i) t) care parts
  where
    zero_digit : (t : ℕ) → digit 0 t ≡ false
    zero_digit t = ap (λ (y : ℕ). y == 1) (bit_at-zero t)

    equal : (x y c : Bool) → c ≡ true → (differ x y && c) ≡ false → x ≡ y
    equal true true c e f = refl
    equal false false c e f = refl
    equal true false true e f = absurd cc
    equal false true true e f = absurd cc
    equal true false false e f = absurd cc
    equal false true false e f = absurd cc

met_before : (w : Words) (prefix rest : List Step) (i k : ℕ) → k < length prefix → misses w (word_in w.n (prefix ++ rest) (w.n + 1 + k)) i ≡ false → is_missing w prefix i ≡ false
unfolding is_missing meets_at
met_before w prefix rest i k low has = ap not (met_at w prefix i k low (ap not (ap (λ (x : ℕ). misses w x i) (sym (word_prefix w.n prefix rest (w.n + 1 + k) (omega (arith, low)))) ∙ has)))

pub none_in_conflict : (w : Words) (basis : Basis) (prefix : List Step) (left : ℕ) (reads : ℕ → Bool) →
    AreInConflict w prefix reads → NoneReading w basis prefix left reads
none_in_conflict w basis prefix left reads is = record {
  none = λ rest count target read. fails rest target read;
}
  where
    fails : (rest : List Step) → IsFreshSolution w basis (prefix ++ rest) → ReadExactly rest (w.n + length prefix) reads → ⊥
    fails rest target read =
        let steps : List Step = prefix ++ rest in
        let alike : AreAlike w prefix rest is.row is.other = record { each = λ i low e. is.alike i low (sym (read.each i low) ∙ e) } in
        let met = met_place w basis steps is.output target.normal.solution is.inside in
        let p : ℕ = w.n + 1 + met.0 in
        let word : ℕ = word_in w.n steps p in
        let a = specified w word is.output is.row met.2 is.care in
        let b = specified w word is.output is.other met.2 is.other_care in
        elim (cases_lt met.0 (length prefix)) [
          | inl before ↦ both_ways (is_missing w prefix is.output) (met_before w prefix rest is.output met.0 before met.2) is.missed
          | inr past ↦ is.differ (sym b ∙ further_alike w is.row is.other is.below is.other_below rest prefix target.normal.solution.are alike p (omega (arith, past)) (omega (arith, met.1)) ∙ a)
        ]
