-- Outputs that are incompatible need different steps.
use Rattle.std.proofs.Common.{◌≡◌, ℕ, ◌+◌, ◌≤◌, ◌<◌, ◌⊎◌, true, false, Bool, ◌&&◌, not, ◌==◌, List, [], ◌∷◌, ◌++◌, length, refl, sym, ap, ◌∙◌, subst, arith, inl, inr}
use Rattle.std.specs.Prelude.{slice_index, bit_and, bit_xor}
use Rattle.std.specs.Int.{bit_at}
use Rattle.std.proofs.lemmas.Bool.{cases_Bool, cases_lt, both_ways}
use Rattle.std.proofs.lemmas.Grind.{common_steps}
use Rattle.std.proofs.lemmas.List.{length_push}
use Rattle.std.proofs.lemmas.Nat.Bits.{bit_at-zero, bit_at-lt, same_from_bits}
use Rattle.chain_theory.specs.Operator.{Basis, digit}
use Rattle.chain_theory.specs.Chain.{Step}
use Rattle.op_basis.specs.WordOperator.{on_words, differ}
use Rattle.op_basis.specs.WordOperatorLaws.{digit_and, digit_xor}
use Rattle.tt_core.specs.Words.{Words}
use Rattle.bound_core.specs.Counts.{some_below, count_below}
use Rattle.bound_core.specs.CountLaws.{passes_some, some_passes, and_parts, true_false, no_digit}
use Rattle.step_core.specs.Steps.{misses, meets_at, is_met, is_missing, all_met, word_in}
use Rattle.step_core.specs.Pruning.{are_compatible, is_incompatible, is_due, due, meets, meets_some, gives, gives_some}
use Rattle.step_core.specs.Enumeration.{IsNormalSolution, NoneFrom, NoneWith, IsGivenStep}
use Rattle.step_core.specs.LoopLaws.{none_passes, count_split, count_zero, count_one}
use Rattle.step_core.specs.StackLaws.{word_prefix, word_last}
use Rattle.step_core.specs.NormalSolutionLaws.{met_at}
use Rattle.step_core.specs.OutcomeLaws.{append_nil, append_one}
use Rattle.step_core.specs.WordLaws.{zero_is}

pub not_true : (b : Bool) → not b ≡ true → b ≡ false
not_true true e = absurd cc
not_true false e = refl

pub not_false : (b : Bool) → not b ≡ false → b ≡ true
not_false true e = refl
not_false false e = absurd cc

-- ---- no word has the values of two incompatible outputs

same_bit : (a b x care more : Bool) → (differ x a && care) ≡ false → (differ x b && more) ≡ false → ((differ a b && care) && more) ≡ false
same_bit a b x false more p q = grind (arith, common_steps)
same_bit a b x true false p q = grind (arith, common_steps)
same_bit true true x true true p q = refl
same_bit false false x true true p q = refl
same_bit true false true true true p q = absurd cc
same_bit true false false true true p q = absurd cc
same_bit false true true true true p q = absurd cc
same_bit false true false true true p q = absurd cc

no_row : (x : ℕ) → x ≡ 0 → (t : ℕ) → digit x t ≡ false
no_row x e t = ap (λ (y : ℕ). digit y t) e ∙ ap (λ (y : ℕ). y == 1) (bit_at-zero t)

no_rows : (x : ℕ) → ((t : ℕ) → digit x t ≡ false) → x ≡ 0
no_rows x none = same_from_bits x 0 (λ t. no_digit (bit_at x t) (bit_at-lt x t) (none t) ∙ sym (bit_at-zero t))

-- two outputs are compatible where one word has the values of both
both_alike : (w : Words) (word i b : ℕ) → misses w word i ≡ false → misses w word b ≡ false → are_compatible w i b ≡ true
unfolding misses are_compatible
both_alike w word i b has_i has_b =
    let on_i : ℕ = slice_index w.on i in
    let on_b : ℕ = slice_index w.on b in
    let care_i : ℕ = slice_index w.care i in
    let care_b : ℕ = slice_index w.care b in
    let rows_i : (t : ℕ) → (differ (digit word t) (digit on_i t) && digit care_i t) ≡ false =
    λ t. sym (digit_and (bit_xor word on_i) care_i t
    ∙ ap (λ (x : Bool). x && digit care_i t) (digit_xor word on_i t))
    ∙ no_row (bit_and (bit_xor word on_i) care_i) (zero_is (bit_and (bit_xor word on_i) care_i) has_i) t in
    let rows_b : (t : ℕ) → (differ (digit word t) (digit on_b t) && digit care_b t) ≡ false =
    λ t. sym (digit_and (bit_xor word on_b) care_b t
    ∙ ap (λ (x : Bool). x && digit care_b t) (digit_xor word on_b t))
    ∙ no_row (bit_and (bit_xor word on_b) care_b) (zero_is (bit_and (bit_xor word on_b) care_b) has_b) t in
    let none : bit_and (bit_and (bit_xor on_i on_b) care_i) care_b ≡ 0 = no_rows (bit_and (bit_and (bit_xor on_i on_b) care_i) care_b)
    (λ t.
    digit_and (bit_and (bit_xor on_i on_b) care_i) care_b t
    ∙ ap (λ (x : Bool). x && digit care_b t) (digit_and (bit_xor on_i on_b) care_i t ∙ ap (λ (x : Bool). x && digit care_i t) (digit_xor on_i on_b t))
    ∙ same_bit (digit on_i t) (digit on_b t) (digit word t) (digit care_i t) (digit care_b t) (rows_i t) (rows_b t)) in
    ap (λ (x : ℕ). x == 0) none

-- ---- one step more

pub met_some : (w : Words) (steps : List Step) (i : ℕ) → is_met w steps i ≡ true → (k : ℕ) × (k < length steps) × (meets_at w steps i k ≡ true)
unfolding is_met
met_some w steps i e = some_passes (meets_at w steps i) (length steps) e

same_meets : (w : Words) (prefix : List Step) (s : Step) (i k : ℕ) → k < length prefix → meets_at w (prefix ++ s ∷ []) i k ≡ true → meets_at w prefix i k ≡ true
unfolding meets_at
same_meets w prefix s i k low e = ap (λ (x : ℕ). not (misses w x i)) (sym (word_prefix w.n prefix (s ∷ []) (w.n + 1 + k) (omega (arith, low)))) ∙ e

last_meets : (w : Words) (steps : List Step) (i k last : ℕ) → k ≡ last → meets_at w steps i k ≡ true → not (misses w (word_in w.n steps (w.n + 1 + last)) i) ≡ true
unfolding meets_at
last_meets w steps i k last e meets_it = ap (λ (x : ℕ). not (misses w (word_in w.n steps (w.n + 1 + x)) i)) (sym e) ∙ meets_it

gives_none : (w : Words) (prefix : List Step) (word i : ℕ) → gives_some w prefix word ≡ false → i < length w.on → is_met w prefix i ≡ false → misses w word i ≡ false → ⊥
unfolding gives_some gives meets is_missing
gives_none w prefix word i none low missing has =
    let gives_it : (not (misses w word i) && not (is_met w prefix i)) ≡ true = rw (has, missing) refl in
    true_false (sym gives_it ∙ none_passes (gives w prefix word) (length w.on) i none low)

-- an output that is met only with the last step has that step's values
pub newly_met : (w : Words) (prefix : List Step) (s : Step) (i : ℕ) → is_met w prefix i ≡ false →
    is_met w (prefix ++ s ∷ []) i ≡ true → misses w (word_in w.n (prefix ++ s ∷ []) (w.n + 1 + length prefix)) i ≡ false
newly_met w prefix s i before after =
    let found = met_some w (prefix ++ s ∷ []) i after in
    elim (cases_lt found.0 (length prefix)) [
      | inl low ↦ absurd (both_ways (is_met w prefix i) before (met_at w prefix i found.0 low (same_meets w prefix s i found.0 low found.2)))
      | inr last ↦
          let at : found.0 ≡ length prefix = omega (arith, last, found.1, length_push prefix s) in
          not_true (misses w (word_in w.n (prefix ++ s ∷ []) (w.n + 1 + length prefix)) i) (last_meets w (prefix ++ s ∷ []) i found.0 (length prefix) at found.2)
    ]

is_parts : (w : Words) (steps : List Step) (i : ℕ) → is_due w steps i ≡ true → (is_incompatible w i ≡ true) × (is_met w steps i ≡ false)
unfolding is_due is_missing
is_parts w steps i e = let parts = and_parts (is_incompatible w i) (not (is_met w steps i)) e in (parts.0, not_true (is_met w steps i) parts.1)

is_whole : (w : Words) (steps : List Step) (i : ℕ) → is_incompatible w i ≡ true → is_met w steps i ≡ false → is_due w steps i ≡ true
unfolding is_due is_missing
is_whole w steps i apart missing = rw (apart, missing) refl

-- the word has the values of an output that is compatible with no output before it
unfoldable is_own : Words → ℕ → ℕ → Bool
is_own w word i = is_incompatible w i && not (misses w word i)

own_parts : (w : Words) (word i : ℕ) → is_own w word i ≡ true → (is_incompatible w i ≡ true) × (misses w word i ≡ false)
unfolding is_own
own_parts w word i e = let parts = and_parts (is_incompatible w i) (not (misses w word i)) e in (parts.0, not_true (misses w word i) parts.1)

own_whole : (w : Words) (word i : ℕ) → is_incompatible w i ≡ true → misses w word i ≡ false → is_own w word i ≡ true
unfolding is_own
own_whole w word i apart has = rw (apart, has) refl

own_once : (w : Words) (word i j : ℕ) → i < j → is_own w word i ≡ true → is_own w word j ≡ true → ⊥
unfolding is_incompatible
own_once w word i j less first second =
    let a = own_parts w word i first in
    let b = own_parts w word j second in
    true_false (sym (both_alike w word j i b.1 a.1) ∙ none_passes (are_compatible w j) j i (not_true (some_below (are_compatible w j) j) b.0) less)

due_step : (w : Words) (prefix : List Step) (s : Step) → due w prefix ≤ due w (prefix ++ s ∷ []) + 1
due_step w prefix s =
    let longer : List Step = prefix ++ s ∷ [] in
    let word : ℕ = word_in w.n longer (w.n + 1 + length prefix) in
    omega (
      arith,
      count_split (is_due w prefix) (is_due w longer) (is_own w word) (length w.on)
          (λ i low e.
          let parts = is_parts w prefix i e in
          by_met w prefix s i parts.0 parts.1 (cases_Bool (is_met w longer i))),
      count_one (is_own w word) (length w.on) (λ i j less low. own_once w word i j less),
    )
  where
    by_met : (w : Words) (prefix : List Step) (s : Step) (i : ℕ) → is_incompatible w i ≡ true →
        is_met w prefix i ≡ false → (is_met w (prefix ++ s ∷ []) i ≡ true) ⊎ (is_met w (prefix ++ s ∷ []) i ≡ false) →
        (is_due w (prefix ++ s ∷ []) i ≡ true) ⊎ (is_own w (word_in w.n (prefix ++ s ∷ []) (w.n + 1 + length prefix)) i ≡
        true)
    by_met w prefix s i apart missing (inl met) = inr (own_whole w (word_in w.n (prefix ++ s ∷ []) (w.n + 1 + length prefix)) i apart (newly_met w prefix s i missing met))
    by_met w prefix s i apart missing (inr still) = inl (is_whole w (prefix ++ s ∷ []) i apart still)

-- ---- solutions

none_due : (w : Words) (steps : List Step) (i : ℕ) → all_met w steps ≡ true → i < length w.on → is_due w steps i ≡ false
unfolding all_met is_due
none_due w steps i all low = ap (λ (x : Bool). is_incompatible w i &&
    x) (none_passes (is_missing w steps) (length w.on) i (not_true (some_below (is_missing w steps) (length w.on)) all)
    low) ∙ and_false (is_incompatible w i)
  where
    and_false : (b : Bool) → (b && false) ≡ false
    and_false true = refl
    and_false false = refl

-- at least as many further steps are needed as outputs are due
pub due_few : (w : Words) (basis : Basis) (rest prefix : List Step) → IsNormalSolution w basis (prefix ++ rest) → due w prefix ≤ length rest
due_few w basis [] prefix target =
    let whole : all_met w prefix ≡ true = subst (λ (ss : List Step). all_met w ss ≡ true) (append_nil prefix) target.solution.met in
    omega (arith, count_zero (is_due w prefix) (length w.on) (λ i low. none_due w prefix i whole low))
due_few w basis (s ∷ rest) prefix target =
    omega (arith, due_step w prefix s, due_few w basis rest (prefix ++ s ∷ []) (subst (IsNormalSolution w basis) (sym (append_one prefix s rest)) target))

pub too_few : (w : Words) (basis : Basis) (prefix : List Step) (left : ℕ) → left < due w prefix → NoneFrom w basis prefix left
too_few w basis prefix left few = record { none = λ rest count target. omega (arith, few, count, due_few w basis rest prefix target) }

-- where all steps that are left are due, the next step has the values of a missing output
pub must_give : (w : Words) (basis : Basis) (prefix : List Step) (s : Step) (left word : ℕ) →
    word ≡ on_words s.op (word_in w.n prefix s.j) (word_in w.n prefix s.k) → gives_some w prefix word ≡ false →
    left ≤ due w prefix → NoneWith w basis prefix left (IsGivenStep s)
must_give w basis prefix s left word made none many = record {
  none = λ this rest is count target.
      let longer : List Step = prefix ++ s ∷ [] in
      let moved : IsNormalSolution w basis (longer ++ rest) = subst (IsNormalSolution w basis) (ap (λ (x : Step). prefix ++ x ∷ rest) is ∙ sym (append_one prefix s rest)) target in
      let zero_more : count_below (λ i. false) (length w.on) ≡ 0 = count_zero (λ i. false) (length w.on) (λ i low. refl) in
      let same = count_split (is_due w prefix) (is_due w longer) (λ i. false) (length w.on) (λ i low e. inl (still w prefix s word i made none low e)) in
      omega (arith, many, count, due_few w basis rest longer moved, same, zero_more);
}
  where
    still : (w : Words) (prefix : List Step) (s : Step) (word i : ℕ) →
        word ≡ on_words s.op (word_in w.n prefix s.j) (word_in w.n prefix s.k) → gives_some w prefix word ≡ false →
        i < length w.on → is_due w prefix i ≡ true → is_due w (prefix ++ s ∷ []) i ≡ true
    still w prefix s word i made none low e =
        let parts = is_parts w prefix i e in
        let same : word_in w.n (prefix ++ s ∷ []) (w.n + 1 + length prefix) ≡ word = word_last w.n prefix s (w.n + 1 + length prefix) refl ∙ sym made in
        elim (cases_Bool (is_met w (prefix ++ s ∷ []) i)) [
          | inl met ↦ absurd (gives_none w prefix word i none low parts.1 (ap (λ (x : ℕ). misses w x i) (sym same) ∙ newly_met w prefix s i parts.1 met))
          | inr missing ↦ is_whole w (prefix ++ s ∷ []) i parts.0 missing
        ]

-- ---- loops

pub incompatible_fails : (w : Words) (i b : ℕ) → are_compatible w i b ≡ true → b < i → is_incompatible w i ≡ false
unfolding is_incompatible
incompatible_fails w i b alike low = ap not (passes_some (are_compatible w i) i b low alike)

pub some_meets : (w : Words) (word i : ℕ) → meets w word i ≡ true → i < length w.on → meets_some w word ≡ true
unfolding meets_some
some_meets w word i has low = passes_some (meets w word) (length w.on) i low has

pub some_gives : (w : Words) (steps : List Step) (word i : ℕ) → gives w steps word i ≡ true → i < length w.on → gives_some w steps word ≡ true
unfolding gives_some
some_gives w steps word i has low = passes_some (gives w steps word) (length w.on) i low has
