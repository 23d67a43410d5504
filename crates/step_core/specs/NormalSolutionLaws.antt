-- A chain in normal form that implements the live outputs is one that the enumeration looks for.
use Rattle.std.proofs.Common.{◌≡◌, ℕ, ◌+◌, ◌-◌, ◌^◌, ◌≤◌, ◌<◌, true, false, not, List, [], length, map, Option, None, Some, refl, sym, ap, ◌∙◌, subst, arith, inl, inr}
use Rattle.std.specs.Prelude.{slice_index, slice_index_or}
use Rattle.std.proofs.lemmas.Bool.{cases_lt}
use Rattle.std.proofs.lemmas.List.{get_or-map, length-map}
use Rattle.std.proofs.lemmas.List.Elements.{Contains-get_or, All-get_or}
use Rattle.chain_theory.specs.Operator.{Basis, digit}
use Rattle.chain_theory.specs.Specification.{Specification, input}
use Rattle.chain_theory.specs.Chain.{Step, Chain, AreSteps, NamesPlace}
use Rattle.chain_theory.specs.Value.{values_on, out_value}
use Rattle.chain_theory.specs.ValueLaws.{value-input}
use Rattle.chain_theory.specs.Agreement.{is_met as is_met_by, Agrees, HasChain, NoneBelow}
use Rattle.chain_theory.specs.declared.data.Out.{Out}
use Rattle.chain_theory.specs.declared.data.Out.TheVariants as kinds
use Rattle.chain_laws.specs.NormalForm.{IsNormalForm, HasNormalFormChain}
use Rattle.chain_laws.specs.Least.{minimum_is_in_normal_form}
use Rattle.tt_core.specs.Words.{Words, IsSpec, specification, cell_of}
use Rattle.tt_core.specs.Live.{trivial_value, fits, trivial_of, is_none, is_live, live_outputs, live_words, IsTrivial}
use Rattle.tt_core.specs.Laws.{meets_fits}
use Rattle.tt_core.specs.FirstFitLaws.{none_fits}
use Rattle.tt_core.specs.LiveLaws.{words_count, live_cells}
use Rattle.tt_core.specs.LiveOutputLaws.{among_live}
use Rattle.tt_core.specs.RowLaws.{row_below}
use Rattle.bound_core.specs.CountLaws.{passes_some}
use Rattle.step_core.specs.Steps.{misses, meets_at, is_met, is_missing, all_met, word_in}
use Rattle.step_core.specs.Enumeration.{IsNormalSolution, NoneFrom}
use Rattle.step_core.specs.LoopLaws.{all_fail}
use Rattle.step_core.specs.WordLaws.{word_row, never_missed}

-- ---- live outputs

is_live_by : (o : Option Out) → is_none o ≡ true → o ≡ None
is_live_by None e = refl
is_live_by (Some out) e = absurd cc

-- no trivial out has the values of a live output
live_misses : (s : Specification) (h : ℕ) (out : Out) → is_live s h ≡ true → IsTrivial s.inputs out → ((t : ℕ) → t < 2 ^ s.inputs → is_met_by (s.cell h t) (trivial_value s.inputs t out) ≡ true) → ⊥
unfolding is_live
live_misses s h out live trivial met =
    let missed : fits s h out ≡ false = none_fits s h (is_live_by (trivial_of s h) live) out trivial in
    let fit : fits s h out ≡ true = meets_fits s h out met in
    absurd cc

-- no trivial out has the values of an output
pub record AreAllLive (w : Words) : Type 0 where
  pub none : (h : ℕ) → 1 ≤ h → h ≤ length w.on → (out : Out) → IsTrivial w.n out → ((t : ℕ) → t < 2 ^ w.n → is_met_by (cell_of w h t) (trivial_value w.n t out) ≡ true) → ⊥

-- the number of the live output at an index
abbrev live_at : Words → ℕ → ℕ
live_at w h = slice_index (live_outputs (specification w)) (h - 1)

live_inside : (w : Words) (h : ℕ) → 1 ≤ h → h ≤ length (live_words w).on → (1 ≤ live_at w h) × (live_at w h ≤ length w.on) × (is_live (specification w) (live_at w h) ≡ true)
live_inside w h from to = among_live (specification w) (length w.on) (live_at w h)
    (Contains-get_or (live_outputs (specification w)) (h - 1) 0
    (omega (arith, from, to, words_count w.on (live_outputs (specification w)))))

pub live_are : (w : Words) → AreAllLive (live_words w)
live_are w = record {
  none = λ h from to out trivial met.
      let at = live_inside w h from to in
      live_misses (specification w) (live_at w h) out at.2 trivial
      (λ t low. ap (λ (cell : _). is_met_by cell (trivial_value w.n t out)) (sym (live_cells w h t from (omega (arith, to, words_count w.on (live_outputs (specification w)))))) ∙ met t low);
}

-- ---- chains for the live outputs

out_at : Chain → ℕ → Out
out_at c h = slice_index_or c.outs (h - 1) kinds.Zero

-- the chain with the outs of the live outputs alone
pub live_chain : (w : Words) (basis : Basis) (q : ℕ) → HasChain (specification w) basis q → HasChain (specification (live_words w)) basis q
unfolding out_at
live_chain w basis q has =
    let c : Chain = has.chain in
    let numbers : List ℕ = live_outputs (specification w) in
    let outs : List Out = map (out_at c) numbers in
    let count : length outs ≡ length numbers = length-map numbers (out_at c) in
    let lives : length (live_words w).on ≡ length numbers = words_count w.on numbers in
    let at : (h : ℕ) → 1 ≤ h → h ≤ length outs → slice_index_or outs (h - 1) kinds.Zero ≡ out_at c (live_at w h) =
    λ h from to. get_or-map (out_at c) numbers (h - 1) 0 kinds.Zero (omega (arith, from, to, count)) in
    record {
      chain = record { n = c.n; steps = c.steps; outs = outs };
      is_chain = record {
        steps = has.is_chain.steps;
        outs = λ i d low.
            let inside = live_inside w (i + 1) (omega arith) (omega (arith, low, count, lives)) in
            let same : i + 1 - 1 ≡ i = omega arith in
            let here : slice_index_or outs i d ≡ out_at c (live_at w (i + 1)) =
            get_or-map (out_at c) numbers i 0 d (omega (arith, low, count))
            ∙ ap (λ (x : ℕ). out_at c (slice_index numbers x)) (sym same) in
            subst (NamesPlace (c.n + length c.steps)) (sym here) (has.is_chain.outs (live_at w (i + 1) - 1) kinds.Zero (omega (arith, inside.0, inside.1, has.agrees.outputs)));
      };
      size = has.size;
      is_over = has.is_over;
      agrees = record {
        inputs = has.agrees.inputs;
        outputs = count ∙ sym lives;
        cells = λ h t from to low.
            let inside = live_inside w h from to in
            ap (λ (cell : _). is_met_by cell (out_value c t (slice_index_or outs (h - 1) kinds.Zero))) (live_cells w h t from (omega (arith, to, lives)))
            ∙ ap (λ (out : Out). is_met_by (cell_of w (live_at w h) t) (out_value c t out)) (at h from (omega (arith, to, lives, count)))
            ∙ has.agrees.cells (live_at w h) t inside.0 inside.1 low;
      };
    }

-- ---- its steps

-- the out of an output is a step with its values
pub met_at : (w : Words) (steps : List Step) (i k : ℕ) → k < length steps → meets_at w steps i k ≡ true → is_met w steps i ≡ true
unfolding is_met
met_at w steps i k low meets = passes_some (meets_at w steps i) (length steps) k low meets

-- the out of an output is a step with its values
pub missing_at : (w : Words) (steps : List Step) (i : ℕ) → i < length w.on → is_met w steps i ≡ false → all_met w steps ≡ false
unfolding all_met is_missing
missing_at w steps i low missing = ap not (passes_some (is_missing w steps) (length w.on) i low (ap not missing))

meets_by : (w : Words) (c : Chain) (h p k : ℕ) → IsSpec w → AreSteps c.n c.steps → c.n ≡ w.n → 1 ≤ h →
    NamesPlace (c.n + length c.steps) (kinds.Place p) → p ≡ w.n + 1 + k →
    ((t : ℕ) → t < 2 ^ w.n → is_met_by (cell_of w h t) (out_value c t (kinds.Place p)) ≡ true) →
    meets_at w c.steps (h - 1) k ≡ true
unfolding meets_at
meets_by w c h p k spec are same from names e met =
    let rows = row_below w.n spec.inputs in
    let own : h - 1 + 1 ≡ h = omega (arith, from) in
    let moved : AreSteps w.n c.steps = subst (λ (n : ℕ). AreSteps n c.steps) same are in
    let none : misses w (word_in w.n c.steps p) (h - 1) ≡ false = never_missed w (word_in w.n c.steps p) (h - 1) spec
    (λ t low.
    ap (λ (g : ℕ). is_met_by (cell_of w g t) (digit (word_in w.n c.steps p) t)) own
    ∙ ap (is_met_by (cell_of w h t)) (word_row w.n t c.steps p spec.inputs moved (omega (arith, low, rows)) names.0 (omega (arith, names.1, same)) ∙ ap (λ (n : ℕ). values_on n t c.steps p) (sym same))
    ∙ met t low) in
    ap (λ (x : ℕ). not (misses w (word_in w.n c.steps x) (h - 1))) (sym e) ∙ ap not none

has_step : (w : Words) (c : Chain) (h : ℕ) (out : Out) → IsSpec w → AreAllLive w → AreSteps c.n c.steps → c.n ≡ w.n →
    1 ≤ h → h ≤ length w.on → NamesPlace (c.n + length c.steps) out →
    ((t : ℕ) → t < 2 ^ w.n → is_met_by (cell_of w h t) (out_value c t out) ≡ true) → is_met w c.steps (h - 1) ≡ true
has_step w c h kinds.Zero spec live are same from to names met = absurd (live.none h from to kinds.Zero tt met)
has_step w c h kinds.One spec live are same from to names met = absurd (live.none h from to kinds.One tt met)
has_step w c h (kinds.Place p) spec live are same from to names met = elim (cases_lt c.n p) [
  | inr is_input ↦
      absurd (live.none h from to (kinds.Place p) (names.0, omega (arith, same, is_input))
      (λ t low. ap (is_met_by (cell_of w h t)) (sym (value-input c t p is_input ∙ ap (λ (n : ℕ). input n t p) same)) ∙ met t low))
  | inl is_step ↦ at (p - (w.n + 1)) (omega (arith, is_step, same))
]
  where
    at : (k : ℕ) → p ≡ w.n + 1 + k → is_met w c.steps (h - 1) ≡ true
    at k e = met_at w c.steps (h - 1) k (omega (arith, e, names.1, same)) (meets_by w c h p k spec are same from names e met)

pub normal_solution_of : (w : Words) (basis : Basis) (q d : ℕ) → IsSpec w → AreAllLive w → (is : HasNormalFormChain (specification w) basis q d) → IsNormalSolution w basis is.has.chain.steps
unfolding all_met is_missing
normal_solution_of w basis q d spec live is =
    let has = is.has in
    let c : Chain = has.chain in
    let same : c.n ≡ w.n = has.agrees.inputs in
    let each : (i : ℕ) → i < length w.on → is_met w c.steps i ≡ true = λ i low.
    let own : i + 1 - 1 ≡ i = omega arith in
    ap (is_met w c.steps) (sym own)
    ∙ has_step w c (i + 1) (slice_index_or c.outs (i + 1 - 1) kinds.Zero) spec live has.is_chain.steps same (omega arith) (omega (arith, low))
    (All-get_or (NamesPlace (c.n + length c.steps)) c.outs (i + 1 - 1) kinds.Zero (omega (arith, low, has.agrees.outputs)) has.is_chain.outs)
    (λ t row. has.agrees.cells (i + 1) t (omega arith) (omega (arith, low)) row) in
    record {
      solution = record {
        are = subst (λ (n : ℕ). AreSteps n c.steps) same has.is_chain.steps;
        over = has.is_over;
        met = ap not (all_fail (is_missing w c.steps) (length w.on) (λ i low. ap not (each i low)));
      };
      outs = c.outs;
      agrees = subst (λ (x : Chain). Agrees x (specification w)) (ap {B = Chain} (λ (n : ℕ). record { n = n; steps = c.steps; outs = c.outs }) same) has.agrees;
      normal_form = subst (IsNormalForm basis (specification w)) (ap {B = Chain} (λ (n : ℕ). record { n = n; steps = c.steps; outs = c.outs }) same) is.normal_form;
    }

-- ---- none of a size

none_by : (w : Words) (basis : Basis) (size q : ℕ) → IsSpec w → AreAllLive w → NoneBelow (specification w) basis size → NoneFrom w basis [] size → q < size + 1 → HasChain (specification w) basis q → ⊥
none_by w basis size q spec live before none low has = elim (cases_lt q size) [
  | inl less ↦ before q less has
  | inr last ↦
      let same : q ≡ size = omega (arith, last, low) in
      let least : HasNormalFormChain (specification w) basis q q =
      minimum_is_in_normal_form (specification w) basis q (record {
        reached = has;
        none_fewer = subst (NoneBelow (specification w) basis) (sym same) before;
      }) in
      none.none least.has.chain.steps (least.has.size ∙ same) (normal_solution_of w basis q q spec live least)
]

pub none_more : (w : Words) (basis : Basis) (size : ℕ) → IsSpec w → AreAllLive w → NoneBelow (specification w) basis size → NoneFrom w basis [] size → NoneBelow (specification w) basis (size + 1)
none_more w basis size spec live before none q low has = none_by w basis size q spec live before none low has

-- no chain of fewer steps for the live outputs, so none for all outputs
pub none_live : (w : Words) (basis : Basis) (size : ℕ) → NoneBelow (specification (live_words w)) basis size → NoneBelow (specification w) basis size
none_live w basis size none q low has = none q low (live_chain w basis q has)
