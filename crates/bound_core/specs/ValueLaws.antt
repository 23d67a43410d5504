-- The tests on words of all rows: whether two outputs differ, and whether a word has all specified values of an
-- output.
use Rattle.std.proofs.Common.{◌≡◌, ℕ, zero, suc, ◌+◌, ◌-◌, ◌^◌, ◌<◌, ◌≤◌, ◌==◌, Bool, true, false, ◌&&◌, ◌||◌, not, refl, sym, ap, ◌∙◌, arith, inl, inr}
use Rattle.std.specs.Prelude.{if◌then◌else◌, slice_index, bit_and, bit_xor, Option, Some, None}
use Rattle.std.proofs.lemmas.Bool.{cases_lt, cases_Bool}
use Rattle.chain_theory.specs.Operator.{digit}
use Rattle.chain_theory.specs.Specification.{Specification}
use Rattle.chain_theory.specs.Agreement.{is_met}
use Rattle.chain_theory.specs.declared.data.Cell.TheVariants.{Zero, One, Free}
use Rattle.chain_theory.specs.declared.data.Out.{Out}
use Rattle.chain_theory.specs.declared.data.Out.TheVariants as outs
use Rattle.op_basis.specs.WordOperator.{differ as differ_bits, spread, input_word}
use Rattle.op_basis.specs.WordOperatorLaws.{digit_and, digit_xor, digit_spread, input_digit}
use Rattle.tt_core.specs.Words.{Words, IsSpec, specification, cell_of}
use Rattle.tt_core.specs.RowLaws.{row_below}
use Rattle.tt_core.specs.Live.{trivial_value, fits_rows, fits, trivial_of, is_live, is_none, IsTrivial}
use Rattle.tt_core.specs.FirstFitLaws.{none_fits, none_where_none_fits}
use Rattle.bound_core.specs.Counts.{some_below, differ_on, differ}
use Rattle.bound_core.specs.CountLaws.{some_passes, passes_some, true_false}
use Rattle.bound_core.specs.WordLaws.{opposite_bits, not_zero, is_zero}
use Rattle.chain_theory.specs.Limits.{most_inputs}

-- ---- a word has a row where some row passes

by_digits : (word bound : ℕ) (test : ℕ → Bool) → ((t : ℕ) → t < bound → digit word t ≡ test t) → ((t : ℕ) → bound ≤ t → digit word t ≡ false) → not (word == 0) ≡ some_below test bound
by_digits word bound test inside past = elim (cases_Bool (some_below test bound)) [
  | inl some ↦ let found = some_passes test bound some in not_zero word found.0 (inside found.0 found.1 ∙ found.2) ∙ sym some
  | inr none ↦ is_zero word (λ t. elim (cases_lt t bound) [
    | inl low ↦ elim (cases_Bool (test t)) [
      | inl passes ↦ absurd (true_false (sym (passes_some test bound t low passes) ∙ none))
      | inr fails ↦ inside t low ∙ fails
    ]
    | inr high ↦ past t high
  ]) ∙ sym none
]

and_false : (a b : Bool) → b ≡ false → (a && b) ≡ false
and_false true b e = e
and_false false b e = refl

-- ---- outputs that differ

parted : ℕ → ℕ → ℕ → ℕ → ℕ
parted care care' on on' = bit_and (bit_and care care') (bit_xor on on')

parted_digit : (care care' on on' t : ℕ) → digit (parted care care' on on') t ≡ ((digit care t && digit care' t) && differ_bits (digit on t) (digit on' t))
unfolding parted
parted_digit care care' on on' t = rw (digit_and (bit_and care care') (bit_xor on on') t, digit_and care care' t, digit_xor on on' t) refl

pub differ_by_words : (w : Words) (g h : ℕ) → IsSpec w →
    not (bit_and (bit_and (slice_index w.care (g - 1)) (slice_index w.care (h - 1)))
    (bit_xor (slice_index w.on (g - 1)) (slice_index w.on (h - 1))) == 0) ≡ differ (specification w) g h
unfolding differ differ_on parted
differ_by_words w g h spec =
    let one : ℕ = slice_index w.care (g - 1) in
    let other : ℕ = slice_index w.care (h - 1) in
    by_digits (parted one other (slice_index w.on (g - 1)) (slice_index w.on (h - 1))) (2 ^ w.n) (differ_on (specification w) g h)
    (λ t low. parted_digit one other (slice_index w.on (g - 1)) (slice_index w.on (h - 1)) t
    ∙ opposite_bits (digit one t) (digit other t) (digit (slice_index w.on (g - 1)) t)
    (digit (slice_index w.on (h - 1)) t))
    (λ t past. parted_digit one other (slice_index w.on (g - 1)) (slice_index w.on (h - 1)) t
    ∙ past_row (digit one t) (digit other t) (differ_bits (digit (slice_index w.on (g - 1)) t)
    (digit (slice_index w.on (h - 1)) t)) (spec.rows (g - 1) t past))
  where
    past_row : (a b c : Bool) → a ≡ false → ((a && b) && c) ≡ false
    past_row true b c e = absurd (true_false e)
    past_row false b c e = refl

-- ---- a word that has all values of an output

-- the out misses the cell on row t
unfoldable is_missed : Specification → ℕ → Out → ℕ → Bool
is_missed s h out t = not (is_met (s.cell h t) (trivial_value s.inputs t out))

both_not : (a b : Bool) → (not a && b) ≡ not (a || not b)
both_not true b = refl
both_not false true = refl
both_not false false = refl

fits_is : (s : Specification) (h : ℕ) (out : Out) (k : ℕ) → fits_rows s h out k ≡ not (some_below (is_missed s h out) k)
unfolding fits_rows some_below is_missed
fits_is s h out zero = refl
fits_is s h out (suc k) =
    ap (λ (b : Bool). b && is_met (s.cell h k) (trivial_value s.inputs k out)) (fits_is s h out k)
    ∙ both_not (some_below (is_missed s h out) k) (is_met (s.cell h k) (trivial_value s.inputs k out))

missed_bits : (care on bit : Bool) → (differ_bits bit on && care) ≡ not (is_met (if care then (if on then One else Zero) else Free) bit)
missed_bits false on true = and_false (differ_bits true on) false refl
missed_bits false on false = and_false (differ_bits false on) false refl
missed_bits true true true = refl
missed_bits true true false = refl
missed_bits true false true = refl
missed_bits true false false = refl

missed_digit : (word on care t : ℕ) → digit (bit_and (bit_xor word on) care) t ≡ (differ_bits (digit word t) (digit on t) && digit care t)
missed_digit word on care t = rw (digit_and (bit_xor word on) care t, digit_xor word on t) refl

not_not : (b : Bool) → b ≡ not (not b)
not_not true = refl
not_not false = refl

pub fits_by_word : (w : Words) (h word : ℕ) (out : Out) → IsSpec w →
    ((t : ℕ) → t < 2 ^ w.n → digit word t ≡ trivial_value w.n t out) →
    (bit_and (bit_xor word (slice_index w.on (h - 1))) (slice_index w.care (h - 1)) == 0) ≡ fits (specification w) h out
unfolding is_missed
fits_by_word w h word out spec values =
    let on : ℕ = slice_index w.on (h - 1) in
    let care : ℕ = slice_index w.care (h - 1) in
    not_not (bit_and (bit_xor word on) care == 0)
    ∙ ap not (by_digits (bit_and (bit_xor word on) care) (2 ^ w.n) (is_missed (specification w) h out)
    (λ t low. missed_digit word on care t ∙ missed_bits (digit care t) (digit on t) (digit word t) ∙ ap (λ (b : Bool). not (is_met (cell_of w h t) b)) (values t low))
    (λ t past. missed_digit word on care t ∙ and_false (differ_bits (digit word t) (digit on t)) (digit care t) (spec.rows (h - 1) t past)))
    ∙ sym (fits_is (specification w) h out (2 ^ w.n))

-- ---- the words of constants and inputs

pub zero_word : (n t : ℕ) → n ≤ most_inputs → t < 2 ^ n → digit (spread false) t ≡ trivial_value n t outs.Zero
zero_word n t few low = let rows = row_below n few in digit_spread false t (omega (arith, rows, low))

pub one_word : (n t : ℕ) → n ≤ most_inputs → t < 2 ^ n → digit (spread true) t ≡ trivial_value n t outs.One
one_word n t few low = let rows = row_below n few in digit_spread true t (omega (arith, rows, low))

pub place_word : (n j t : ℕ) → n ≤ most_inputs → 1 ≤ j → j ≤ n → t < 2 ^ n → digit (input_word (n - j)) t ≡ trivial_value n t (outs.Place j)
place_word n j t few from to low = let rows = row_below n few in input_digit (n - j) t (omega (arith, few, from, to)) (omega (arith, rows, low))

-- ---- outputs that are live

-- neither a constant nor one of the first inputs has all values of output h
pub record NoneFits (s : Specification) (h count : ℕ) : Type 0 where
  pub zero : fits s h outs.Zero ≡ false
  pub one : fits s h outs.One ≡ false
  pub each : (j : ℕ) → 1 ≤ j → j ≤ count → fits s h (outs.Place j) ≡ false

pub none_more : (s : Specification) (h count : ℕ) → NoneFits s h count → fits s h (outs.Place (count + 1)) ≡ false → NoneFits s h (count + 1)
none_more s h count none here = record {
  zero = none.zero;
  one = none.one;
  each = λ j from to. elim (cases_lt count j) [
    | inl last ↦ let same : j ≡ count + 1 = omega (arith, last, to) in ap (λ (k : ℕ). fits s h (outs.Place k)) same ∙ here
    | inr before ↦ none.each j from before
  ];
}

pub all_live : (s : Specification) (h : ℕ) → NoneFits s h s.inputs → is_live s h ≡ true
unfolding is_live
all_live s h none = ap is_none (none_where_none_fits s h fails)
  where
    fails : (out : Out) → IsTrivial s.inputs out → fits s h out ≡ false
    fails outs.Zero is = none.zero
    fails outs.One is = none.one
    fails (outs.Place j) is = none.each j is.0 is.1

pub not_live : (s : Specification) (h : ℕ) (out : Out) → IsTrivial s.inputs out → fits s h out ≡ true → is_live s h ≡ false
unfolding is_live
not_live s h out is fit = elim (cases_Bool (is_live s h)) [
  | inl live ↦ absurd (true_false (sym fit ∙ none_fits s h (none_is (trivial_of s h) live) out is))
  | inr dead ↦ dead
]
  where
    none_is : (found : Option Out) → is_none found ≡ true → found ≡ None
    none_is None e = refl
    none_is (Some x) e = absurd (true_false (sym e))
