-- The tables of the live outputs and the whole tables: chains of each give chains of the other.
use Rattle.std.proofs.Common.{◌≡◌, ◌⊎◌, ℕ, zero, suc, ◌+◌, ◌-◌, ◌<◌, ◌≤◌, ◌^◌, Bool, true, false, List, ◌∷◌, [], ◌++◌}
use Rattle.std.proofs.Common.{length, map, get_or, Option, Some, None, refl, sym, ap, ◌∙◌, subst, arith, inl, inr}
use Rattle.std.proofs.Common.{⊎_elim}
use Rattle.std.specs.Prelude.{slice_index, slice_index_or, Contains, if◌then◌else◌}
use Rattle.std.proofs.lemmas.Bool.{cases_lt, both_ways, false_from_ne_true}
use Rattle.std.proofs.lemmas.List.{length-map, length_push, get_or_append_left, get_or_push, get_or-map}
use Rattle.std.proofs.lemmas.List.FromFn.{length-map-range_with_len, get_or-map-range_with_len}
use Rattle.std.proofs.lemmas.List.Elements.{Contains-get_or}
use Rattle.chain_theory.specs.Specification.{Specification}
use Rattle.chain_theory.specs.Chain.{Chain, IsChain, NamesPlace}
use Rattle.chain_theory.specs.Value.{out_value}
use Rattle.chain_theory.specs.ValueLaws.{value-input}
use Rattle.chain_theory.specs.Agreement.{is_met, output_value, Agrees}
use Rattle.chain_theory.specs.declared.data.Out.{Out}
use Rattle.chain_theory.specs.declared.data.Out.TheVariants.{Zero, One, Place}
use Rattle.tt_core.specs.Words.{Words, specification, cell_of}
use Rattle.tt_core.specs.Live.{trivial_value, fits, trivial_of, IsTrivial, is_none, is_live, live_among, live_outputs, live_words}
use Rattle.tt_core.specs.Laws.{fits_meets, meets_fits}
use Rattle.tt_core.specs.LiveLaws.{part_count, part_cells}
use Rattle.tt_core.specs.FirstFitLaws.{none_fits, none_where_none_fits, found_first}
use Rattle.tt_core.specs.LiveOutputLaws.{contained_live}
use Rattle.enc_theory.specs.Decode.{restored_out, restored_at, restored}

-- ---- live outputs

none_is : (o : Option Out) → is_none o ≡ true → o ≡ None
none_is None e = refl
none_is (Some out) e = absurd cc

-- no trivial output fits a live one
pub live_fits_none : (s : Specification) (h : ℕ) → is_live s h ≡ true → (out : Out) → IsTrivial s.inputs out → fits s h out ≡ false
unfolding is_live
live_fits_none s h live out trivial = none_fits s h (none_is (trivial_of s h) live) out trivial

-- the index of an element, and the element there
pub record StandsAt (xs : List ℕ) (i x : ℕ) : Type 0 where
  pub within : i < length xs
  pub is : get_or xs i 0 ≡ x

pushed_keeps : (test : Bool) (xs : List ℕ) (y i x : ℕ) → StandsAt xs i x → StandsAt (if test then xs ++ y ∷ [] else xs) i x
pushed_keeps true xs y i x at = record {
  within = let long = length_push xs y in omega (arith, at.within);
  is = get_or_append_left xs (y ∷ []) 0 i at.within ∙ at.is;
}
pushed_keeps false xs y i x at = at

pushed_stands : (test : Bool) (xs : List ℕ) (y i : ℕ) → test ≡ true → i ≡ length xs → StandsAt (if test then xs ++ y ∷ [] else xs) i y
pushed_stands true xs y i e last = record {
  within = let long = length_push xs y in omega arith;
  is = get_or_push xs y 0 i (sym last);
}
pushed_stands false xs y i e last = absurd cc

-- A live output has as many live outputs before it as its index in the list.
pub live_stands : (s : Specification) (k h : ℕ) → 1 ≤ h → h ≤ k → is_live s h ≡ true → StandsAt (live_among s k) (length (live_among s (h - 1))) h
unfolding live_among
live_stands s zero h some low live = absurd (omega arith)
live_stands s (suc k) h some low live = elim (cases_lt h (suc k)) [
  | inl before ↦ pushed_keeps (is_live s (suc k)) (live_among s k) (suc k) (length (live_among s (h - 1))) h (live_stands s k h some (omega arith) live)
  | inr last ↦
      let same : suc k ≡ h = omega arith in
      let below : h - 1 ≡ k = omega arith in
      subst (StandsAt (live_among s (suc k)) (length (live_among s (h - 1)))) same
      (pushed_stands (is_live s (suc k)) (live_among s k) (suc k) (length (live_among s (h - 1))) (ap (is_live s) same ∙ live) (ap (λ (x : ℕ). length (live_among s x)) below))
]

-- the output whose table is that of live output h
abbrev pub whole_output : Words → ℕ → ℕ
whole_output w h = slice_index (live_outputs (specification w)) (h - 1)

pub part_outputs : (w : Words) → length (live_words w).on ≡ length (live_outputs (specification w))
part_outputs w = part_count w (live_words w) refl

pub part_cell : (w : Words) (h t : ℕ) → 1 ≤ h → h ≤ length (live_words w).on → cell_of (live_words w) h t ≡ cell_of w (whole_output w h) t
part_cell w h t some low = part_cells w (live_words w) refl h t some low

pub record IsWholeOutput (w : Words) (h : ℕ) : Type 0 where
  pub from : 1 ≤ h
  pub to : h ≤ length w.on
  pub live : is_live (specification w) h ≡ true

-- it is one of the outputs of the whole, and live
pub whole_is_live : (w : Words) (h : ℕ) → 1 ≤ h → h ≤ length (live_words w).on → IsWholeOutput w (whole_output w h)
whole_is_live w h some low =
    let count = part_outputs w in
    let c : Contains (live_outputs (specification w)) (whole_output w h) = Contains-get_or (live_outputs (specification w)) (h - 1) 0 (omega arith) in
    let (from, to, live) = contained_live (specification w) (whole_output w h) c in
    record { from = from; to = to; live = live }

-- an output of the live part is live there too
pub part_is_live : (w : Words) (h : ℕ) → 1 ≤ h → h ≤ length (live_words w).on → is_live (specification (live_words w)) h ≡ true
unfolding is_live
part_is_live w h some low =
    let whole = whole_is_live w h some low in
    ap is_none (none_where_none_fits (specification (live_words w)) h (λ out trivial. false_from_ne_true (fits (specification (live_words w)) h out) (λ fit.
    both_ways (fits (specification w) (whole_output w h) out) (live_fits_none (specification w) (whole_output w h) whole.live out trivial)
    (meets_fits (specification w) (whole_output w h) out (λ t row. rw (← part_cell w h t some low) (fits_meets (specification (live_words w)) h out fit t row))))))

-- ---- drivers of live outputs

trivial_is : (c : Chain) (t : ℕ) (out : Out) → IsTrivial c.n out → out_value c t out ≡ trivial_value c.n t out
trivial_is c t Zero is = refl
trivial_is c t One is = refl
trivial_is c t (Place j) is = value-input c t j is.1

-- the output is the place of a step
pub record IsStepOut (n last : ℕ) (out : Out) : Type 0 where
  pub place : ℕ
  pub is : out ≡ Place place
  pub above : n < place
  pub within : place ≤ last

-- an output that isn't trivial is a step's place
out_cases : (n last : ℕ) (out : Out) → NamesPlace last out → (IsTrivial n out → ⊥) → IsStepOut n last out
out_cases n last Zero names costs = absurd (costs tt)
out_cases n last One names costs = absurd (costs tt)
out_cases n last (Place p) names costs = ⊎_elim (λ (above : n < p). record { place = p; is = refl; above = above; within = names.1 })
    (λ (below : p ≤ n). absurd (costs (names.0, below))) (cases_lt n p)

-- A live output is a step's place, in each chain that implements the tables.
pub live_out_is_step : (s : Specification) (c : Chain) (h : ℕ) → IsChain c → Agrees c s → 1 ≤ h → h ≤ s.outputs →
    is_live s h ≡ true → IsStepOut c.n (c.n + length c.steps) (slice_index_or c.outs (h - 1) Zero)
live_out_is_step s c h is agrees some low live =
    let count = agrees.outputs in
    let names : NamesPlace (c.n + length c.steps) (slice_index_or c.outs (h - 1) Zero) = is.outs (h - 1) Zero (omega arith) in
    out_cases c.n (c.n + length c.steps) (slice_index_or c.outs (h - 1) Zero) names (λ trivial.
    both_ways (fits s h (slice_index_or c.outs (h - 1) Zero))
    (live_fits_none s h live (slice_index_or c.outs (h - 1) Zero) (subst (λ (n : ℕ). IsTrivial n (slice_index_or c.outs (h - 1) Zero)) agrees.inputs trivial))
    (meets_fits s h (slice_index_or c.outs (h - 1) Zero) (λ t row. subst (λ (b : Bool). is_met (s.cell h t) b ≡ true)
    (trivial_is c t (slice_index_or c.outs (h - 1) Zero) trivial ∙ ap (λ (n : ℕ). trivial_value n t (slice_index_or c.outs (h - 1) Zero)) agrees.inputs)
    (agrees.cells h t some low row))))

-- ---- from the whole tables to the live outputs

abbrev pub out_at : List Out → ℕ → Out
out_at outs h = slice_index_or outs (h - 1) Zero

-- the drivers of the live outputs alone
abbrev pub picked_outs : Words → List Out → List Out
picked_outs w outs = map (out_at outs) (live_outputs (specification w))

abbrev pub picked : Words → Chain → Chain
picked w c = record { n = c.n; steps = c.steps; outs = picked_outs w c.outs }

same_steps : (c : Chain) (outs : List Out) (t : ℕ) (out : Out) → out_value (record { n = c.n; steps = c.steps; outs = outs }) t out ≡ out_value c t out
same_steps c outs t Zero = refl
same_steps c outs t One = refl
same_steps c outs t (Place p) = refl

picked_at : (w : Words) (outs : List Out) (h : ℕ) → 1 ≤ h → h ≤ length (live_words w).on → out_at (picked_outs w outs) h ≡ out_at outs (whole_output w h)
picked_at w outs h some low =
    let count = part_outputs w in
    get_or-map (out_at outs) (live_outputs (specification w)) (h - 1) 0 Zero (omega arith)

pub picked_is_chain : (w : Words) (c : Chain) → IsChain c → length c.outs ≡ length w.on → IsChain (picked w c)
picked_is_chain w c is count = record {
  steps = is.steps;
  outs = λ k d low.
      let long = length-map (live_outputs (specification w)) (out_at c.outs) in
      let live = whole_is_live w (k + 1) (omega arith) (let n = part_outputs w in omega arith) in
      let here : get_or (picked_outs w c.outs) k d ≡ out_at c.outs (get_or (live_outputs (specification w)) k 0) = get_or-map (out_at c.outs) (live_outputs (specification w)) k 0 d (omega arith) in
      let place : k + 1 - 1 ≡ k = omega arith in
      let from : 1 ≤ get_or (live_outputs (specification w)) k 0 = rw place at live.from in
      let to : get_or (live_outputs (specification w)) k 0 ≤ length w.on = rw place at live.to in
      rw here (is.outs (get_or (live_outputs (specification w)) k 0 - 1) Zero (omega arith));
}

-- If a chain implements the tables, its live outputs alone implement the live outputs' tables.
pub picked_agrees : (w : Words) (c : Chain) → Agrees c (specification w) → Agrees (picked w c) (specification (live_words w))
picked_agrees w c agrees = record {
  inputs = agrees.inputs;
  outputs = length-map (live_outputs (specification w)) (out_at c.outs) ∙ sym (part_outputs w);
  cells = λ h t some low row.
      let whole = whole_is_live w h some low in
      let same : output_value (picked w c) h t ≡ output_value c (whole_output w h) t =
      ap (out_value (picked w c) t) (picked_at w c.outs h some low)
      ∙ same_steps c (picked_outs w c.outs) t (out_at c.outs (whole_output w h)) in
      rw (part_cell w h t some low, same) (agrees.cells (whole_output w h) t whole.from whole.to row);
}

-- ---- from the live outputs to the whole tables

abbrev pub whole_chain : Words → Chain → Chain
whole_chain w c = record { n = c.n; steps = c.steps; outs = restored (specification w) c.outs }

-- a restored output is a trivial one that fits, or the driver of a live output
pub record IsFitting (s : Specification) (h : ℕ) (out : Out) : Type 0 where
  pub trivial : IsTrivial s.inputs out
  pub fitting : fits s h out ≡ true

pub record IsOfPart (w : Words) (outs : List Out) (h : ℕ) (out : Out) : Type 0 where
  pub output : ℕ
  pub from : 1 ≤ output
  pub to : output ≤ length (live_words w).on
  pub whole : whole_output w output ≡ h
  pub is : out ≡ out_at outs output

restored_by : (w : Words) (outs : List Out) (h : ℕ) (found : Option Out) → trivial_of (specification w) h ≡ found → 1 ≤ h → h ≤ length w.on
    → IsFitting (specification w) h (restored_out found
    (slice_index_or outs (length (live_among (specification w) (h - 1))) Zero)) ⊎
    IsOfPart w outs h (restored_out found (slice_index_or outs (length (live_among (specification w) (h - 1))) Zero))
unfolding is_live
restored_by w outs h (Some out) e some low = let first = found_first (specification w) h out e in inl record { trivial = first.trivial; fitting = first.fitting }
restored_by w outs h None e some low =
    let at = live_stands (specification w) (length w.on) h some low (ap is_none e) in
    let count = part_outputs w in
    let within = at.within in
    let place : length (live_among (specification w) (h - 1)) + 1 - 1 ≡ length (live_among (specification w) (h - 1)) = omega arith in
    inr record {
      output = length (live_among (specification w) (h - 1)) + 1;
      from = omega arith;
      to = omega arith;
      whole = ap (slice_index (live_outputs (specification w))) place ∙ at.is;
      is = ap (λ (i : ℕ). slice_index_or outs i Zero) (sym place);
    }

pub restored_cases : (w : Words) (outs : List Out) (h : ℕ) → 1 ≤ h → h ≤ length w.on →
    IsFitting (specification w) h (restored_at (specification w) outs h) ⊎
    IsOfPart w outs h (restored_at (specification w) outs h)
unfolding restored_at
restored_cases w outs h some low = restored_by w outs h (trivial_of (specification w) h) refl some low

pub length-restored : (s : Specification) (outs : List Out) → length (restored s outs) ≡ s.outputs
unfolding restored
length-restored s outs = length-map-range_with_len (restored_at s outs) 1 s.outputs

pub restored_get : (s : Specification) (outs : List Out) (k : ℕ) (d : Out) → k < s.outputs → get_or (restored s outs) k d ≡ restored_at s outs (1 + k)
unfolding restored
restored_get s outs k d low = get_or-map-range_with_len (restored_at s outs) 1 s.outputs k (1 + k) d low refl

fitting_names : (n last : ℕ) (out : Out) → n ≤ last → IsTrivial n out → NamesPlace last out
fitting_names n last Zero low is = tt
fitting_names n last One low is = tt
fitting_names n last (Place p) low is = (is.0, omega (arith, is.1))

pub restored_is_chain : (w : Words) (c : Chain) → IsChain c → c.n ≡ w.n → length c.outs ≡ length (live_words w).on → IsChain (whole_chain w c)
restored_is_chain w c is inputs count = record {
  steps = is.steps;
  outs = λ k d low.
      let long = length-restored (specification w) c.outs in
      rw (restored_get (specification w) c.outs k d (omega arith)) (⊎_elim
      (λ (fit : IsFitting (specification w) (1 + k) (restored_at (specification w) c.outs (1 + k))). fitting_names w.n
      (c.n + length c.steps) (restored_at (specification w) c.outs (1 + k)) (omega arith) fit.trivial)
      (λ (of_live : IsOfPart w c.outs (1 + k) (restored_at (specification w) c.outs (1 + k))).
      let from = of_live.from in
      let to = of_live.to in
      rw (of_live.is) (is.outs (of_live.output - 1) Zero (omega arith)))
      (restored_cases w c.outs (1 + k) (omega arith) (omega arith)));
}

restored_met : (w : Words) (c : Chain) (h t : ℕ) (out : Out) → Agrees c (specification (live_words w)) → t < 2 ^ w.n →
    IsFitting (specification w) h out ⊎ IsOfPart w c.outs h out → is_met (cell_of w h t) (out_value c t out) ≡ true
restored_met w c h t out agrees row (inl fit) =
    subst (λ (b : Bool). is_met (cell_of w h t) b ≡ true)
    (sym (trivial_is c t out (subst (λ (n : ℕ). IsTrivial n out) (sym agrees.inputs) fit.trivial) ∙ ap (λ (n : ℕ). trivial_value n t out) agrees.inputs))
    (fits_meets (specification w) h out fit.fitting t row)
restored_met w c h t out agrees row (inr of_live) =
    rw (of_live.is) (subst (λ (x : ℕ). is_met (cell_of w x t) (out_value c t (out_at c.outs of_live.output)) ≡ true) of_live.whole
    (rw (part_cell w of_live.output t of_live.from of_live.to) at (agrees.cells of_live.output t of_live.from of_live.to row)))

-- If a chain implements the live outputs' tables, it implements the tables once the trivial outputs are put
-- back.
pub restored_agrees : (w : Words) (c : Chain) → Agrees c (specification (live_words w)) → Agrees (whole_chain w c) (specification w)
restored_agrees w c agrees = record {
  inputs = agrees.inputs;
  outputs = length-restored (specification w) c.outs;
  cells = λ h t some low row.
      let place : 1 + (h - 1) ≡ h = omega arith in
      let at : out_at (restored (specification w) c.outs) h ≡ restored_at (specification w) c.outs h =
      restored_get (specification w) c.outs (h - 1) Zero (omega arith)
      ∙ ap (restored_at (specification w) c.outs) place in
      let same : output_value (whole_chain w c) h t ≡ out_value c t (restored_at (specification w) c.outs h) =
      ap (out_value (whole_chain w c) t) at ∙ same_steps c (restored (specification w) c.outs) t
      (restored_at (specification w) c.outs h) in
      rw same (restored_met w c h t (restored_at (specification w) c.outs h) agrees row (restored_cases w c.outs h some low));
}
