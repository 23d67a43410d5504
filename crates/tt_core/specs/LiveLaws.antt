-- Outs that meet all cells of an output, and outputs that no trivial out meets.
use Rattle.std.proofs.Common.{◌≡◌, ℕ, zero, suc, ◌+◌, ◌-◌, ◌<◌, ◌≤◌, true, false, List, [], ◌∷◌, ◌++◌, length, refl, ap, ◌∙◌, arith, add-one, length-append, inl, inr}
use Rattle.std.specs.Prelude.{slice_index}
use Rattle.std.proofs.lemmas.Grind.{common_steps}
use Rattle.std.proofs.lemmas.Bool.{cases_lt}
use Rattle.std.proofs.lemmas.List.{map-append, length-map}
use Rattle.chain_theory.specs.Operator.{digit}
use Rattle.chain_theory.specs.Specification.{Specification}
use Rattle.chain_theory.specs.Agreement.{is_met}
use Rattle.chain_theory.specs.declared.data.Out.{Out}
use Rattle.chain_theory.specs.declared.data.Out.TheVariants.{Place}
use Rattle.tt_core.specs.Words.{Words, IsSpec, specification, cell_of}
use Rattle.tt_core.specs.Live.{trivial_value, fits_rows, inputs_from, is_live, live_among, live_outputs, words_of, live_words}
use Rattle.tt_core.specs.KeepLaws.{pairs_push}
use Rattle.tt_core.specs.RowLaws.{row_below}
use Rattle.chain_theory.specs.Limits.{most_outputs}

-- before the first row every out fits
pub fits_none : (s : Specification) (h : ℕ) (out : Out) → fits_rows s h out 0 ≡ true
unfolding fits_rows
fits_none s h out = refl

-- one more row that is met
pub fits_more : (w : Words) (h : ℕ) (out : Out) (t : ℕ) → fits_rows (specification w) h out t ≡ true →
    is_met (cell_of w h t) (trivial_value w.n t out) ≡ true → fits_rows (specification w) h out (t + 1) ≡ true
unfolding fits_rows
fits_more w h out t before met = rw (add-one, before, met) refl

-- a row that is missed
fits_missed : (s : Specification) (h : ℕ) (out : Out) (t k : ℕ) → t < k → is_met (s.cell h t) (trivial_value s.inputs t out) ≡ false → fits_rows s h out k ≡ false
unfolding fits_rows
fits_missed s h out t zero low missed = absurd (omega arith)
fits_missed s h out t (suc k) low missed = elim (cases_lt t k) [
  | inl below ↦ rw (fits_missed s h out t k below missed) refl
  | inr past ↦ let same : t ≡ k = omega arith in grind (arith, common_steps, rw same at missed)
]

pub fits_fails : (w : Words) (h : ℕ) (out : Out) (t k : ℕ) → is_met (cell_of w h t) (trivial_value w.n t out) ≡ false → t < k → fits_rows (specification w) h out k ≡ false
fits_fails w h out t k missed low = fits_missed (specification w) h out t k low missed

pub ruleset meeting = (common_steps, fits_none, fits_more, fits_fails, row_below)

-- the inputs from j on are j and those from j + 1 on
pub inputs_more : (n j : ℕ) → j ≤ n → inputs_from j (n + 1 - j) ≡ Place j ∷ inputs_from (j + 1) (n + 1 - (j + 1))
unfolding inputs_from
inputs_more n j within = let e : n + 1 - j ≡ suc (n + 1 - (j + 1)) = omega arith in rw e refl

pub inputs_done : (n j : ℕ) → n < j → inputs_from j (n + 1 - j) ≡ []
unfolding inputs_from
inputs_done n j past = let e : n + 1 - j ≡ 0 = omega arith in rw e refl

pub ruleset inputs = (common_steps, inputs_more, inputs_done)

-- without outputs there are no live ones
pub live_none : (s : Specification) (words : List ℕ) → words_of words (live_among s 0) ≡ []
unfolding live_among words_of
live_none s words = refl

-- one more output, live or not
pub live_more : (s : Specification) (words : List ℕ) (k : ℕ) → is_live s (k + 1) ≡ true → words_of words (live_among s (k + 1)) ≡ words_of words (live_among s k) ++ slice_index words (k + 1 - 1) ∷ []
unfolding live_among words_of
live_more s words k live =
    let e : k + 1 ≡ suc k = omega arith in
    let is : is_live s (suc k) ≡ true = rw e at live in
    rw (e, is) (map-append _ (live_among s k) (suc k ∷ []))

pub live_same : (s : Specification) (words : List ℕ) (k : ℕ) → is_live s (k + 1) ≡ false → words_of words (live_among s (k + 1)) ≡ words_of words (live_among s k)
unfolding live_among words_of
live_same s words k live =
    let e : k + 1 ≡ suc k = omega arith in
    let is : is_live s (suc k) ≡ false = rw e at live in
    rw (e, is) refl

pub ruleset living = (common_steps, live_none, live_more, live_same)

-- the word at an index
word_at : (words outputs : List ℕ) (i : ℕ) → i < length outputs → slice_index (words_of words outputs) i ≡ slice_index words (slice_index outputs i - 1)
unfolding words_of
word_at words [] i within = absurd (omega arith)
word_at words (h ∷ outputs) zero within = refl
word_at words (h ∷ outputs) (suc i) within = word_at words outputs i (omega arith)

-- as many words as outputs
pub words_count : (words outputs : List ℕ) → length (words_of words outputs) ≡ length outputs
unfolding words_of
words_count words outputs = length-map outputs _

-- the cells of the live outputs
pub live_cells : (w : Words) (h t : ℕ) → 1 ≤ h → h ≤ length (live_outputs (specification w)) → cell_of (live_words w) h t ≡ cell_of w (slice_index (live_outputs (specification w)) (h - 1)) t
live_cells w h t some low =
    let outputs = live_outputs (specification w) in
    let within : h - 1 < length outputs = omega arith in
    rw (word_at w.care outputs (h - 1) within, word_at w.on outputs (h - 1) within) refl

-- the outputs and cells of the specification of the live outputs
pub part_count : (w part : Words) → part ≡ live_words w → length part.on ≡ length (live_outputs (specification w))
part_count w part is = ap (λ (x : Words). length x.on) is ∙ words_count w.on (live_outputs (specification w))

pub part_cells : (w part : Words) → part ≡ live_words w → (h t : ℕ) → 1 ≤ h → h ≤ length part.on → cell_of part h t ≡ cell_of w (slice_index (live_outputs (specification w)) (h - 1)) t
part_cells w part is h t some low = ap (λ (x : Words). cell_of x h t) is ∙ live_cells w h t some (omega (arith, part_count w part is))

-- One more output, copied from another one, keeps the invariant of a specification.
pub kept_copy : (w : Words) (on care on' care' : List ℕ) (h : ℕ) → IsSpec w →
    IsSpec (record { n = w.n; on = on; care = care }) → length on < most_outputs → on' ≡ on ++ slice_index w.on (h - 1) ∷ [] →
    care' ≡ care ++ slice_index w.care (h - 1) ∷ [] → IsSpec (record { n = w.n; on = on'; care = care' })
kept_copy w on care on' care' h whole spec room on-is care-is =
    rw (on-is, care-is) record {
      inputs = spec.inputs;
      outputs = omega (arith, spec.outputs, length-append on (slice_index w.on (h - 1) ∷ []));
      together = omega (arith, spec.together, length-append on (slice_index w.on (h - 1) ∷ []), length-append care (slice_index w.care (h - 1) ∷ []));
      inside = λ i t. pairs_push (λ a b. digit a t ≡ true → digit b t ≡ true) on care _ _ i spec.together (λ k. spec.inside k t) (whole.inside (h - 1) t);
      rows = λ i t past. pairs_push (λ a b. digit b t ≡ false) on care (slice_index w.on (h - 1)) (slice_index w.care (h - 1)) i spec.together (λ k. spec.rows k t past) (whole.rows (h - 1) t past);
    }
