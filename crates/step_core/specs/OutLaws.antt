-- Trivial outs and outs of steps have the values of their outputs.
use Rattle.std.proofs.Common.{◌≡◌, ℕ, ◌+◌, ◌-◌, ◌≤◌, ◌<◌, true, false, Bool, not, List, [], ◌∷◌, ◌++◌, length, Option, Some, None, refl, sym, ap, ◌∙◌, subst, arith, inl, inr}
use Rattle.std.specs.Prelude.{slice_index_or}
use Rattle.std.proofs.lemmas.Bool.{cases_lt}
use Rattle.std.proofs.lemmas.List.{get_or_push, get_or_append_left, length_push}
use Rattle.chain_theory.specs.Operator.{digit}
use Rattle.chain_theory.specs.Chain.{Step, AreSteps, NamesPlace}
use Rattle.chain_theory.specs.Value.{values_on}
use Rattle.chain_theory.specs.Agreement.{is_met as is_met_by}
use Rattle.chain_theory.specs.declared.data.Out.{Out}
use Rattle.chain_theory.specs.declared.data.Out.TheVariants as kinds
use Rattle.chain_laws.specs.Bodies.{out_bit}
use Rattle.chain_laws.specs.Follow.{input_value}
use Rattle.tt_core.specs.Words.{Words, IsSpec, specification, cell_of}
use Rattle.tt_core.specs.Live.{is_live, is_none, trivial_of, trivial_value, IsTrivial}
use Rattle.tt_core.specs.Laws.{fits_meets}
use Rattle.tt_core.specs.FirstFitLaws.{found_first}
use Rattle.tt_core.specs.RowLaws.{row_below}
use Rattle.step_core.specs.Steps.{misses, meets_at, word_in}
use Rattle.step_core.specs.Outs.{IsStepFor, IsOutFor, AreOuts}
use Rattle.step_core.specs.LoopLaws.{passing}
use Rattle.step_core.specs.WordLaws.{word_row, not_missed}

not_not : (b : Bool) → not b ≡ true → b ≡ false
not_not true e = absurd cc
not_not false e = refl

-- ---- steps

pub sits : (w : Words) (steps : List Step) (i k place : ℕ) → meets_at w steps i k ≡ true → k < length steps → place ≡ w.n + 1 + k → IsStepFor w steps i place
unfolding meets_at
sits w steps i k place meets low e =
    let here : IsStepFor w steps i (w.n + 1 + k) = record { from = omega arith; to = omega (arith, low); has = not_not (misses w (word_in w.n steps (w.n + 1 + k)) i) meets } in
    subst (IsStepFor w steps i) (sym e) here

-- ---- outs

trivial_bit : (n t : ℕ) (steps : List Step) (out : Out) → IsTrivial n out → out_bit (values_on n t steps) out ≡ trivial_value n t out
trivial_bit n t steps kinds.Zero is = refl
trivial_bit n t steps kinds.One is = refl
trivial_bit n t steps (kinds.Place p) is = input_value n t p steps (omega (arith, is.1))

trivial_names : (n last : ℕ) (out : Out) → n ≤ last → IsTrivial n out → NamesPlace last out
trivial_names n last kinds.Zero few is = tt
trivial_names n last kinds.One few is = tt
trivial_names n last (kinds.Place p) few is = (is.0, omega (arith, few, is.1))

pub trivial_out : (w : Words) (steps : List Step) (h : ℕ) (o : Option Out) (out : Out) → o ≡ trivial_of (specification w) h → o ≡ Some out → IsOutFor w steps h out
trivial_out w steps h o out is e =
    let first = found_first (specification w) h out (sym is ∙ e) in
    record {
      names = trivial_names w.n (w.n + length steps) out (omega arith) first.trivial;
      met = λ t low. ap (is_met_by (cell_of w h t)) (trivial_bit w.n t steps out first.trivial) ∙ fits_meets (specification w) h out first.fitting t low;
    }

pub step_out : (w : Words) (steps : List Step) (h place : ℕ) → IsSpec w → AreSteps w.n steps → 1 ≤ h → IsStepFor w steps (h - 1) place → IsOutFor w steps h (kinds.Place place)
step_out w steps h place spec are some has = record {
  names = (omega (arith, has.from), has.to);
  met = λ t low.
      let rows = row_below w.n spec.inputs in
      let own : h - 1 + 1 ≡ h = omega (arith, some) in
      ap (is_met_by (cell_of w h t)) (sym (word_row w.n t steps place spec.inputs are (omega (arith, low, rows)) (omega (arith, has.from)) has.to))
      ∙ ap (λ (g : ℕ). is_met_by (cell_of w g t) (digit (word_in w.n steps place) t)) (sym own)
      ∙ not_missed w (word_in w.n steps place) (h - 1) t has.has;
}

pub live_of : (w : Words) (h : ℕ) (o : Option Out) → o ≡ trivial_of (specification w) h → o ≡ None → is_live (specification w) h ≡ true
unfolding is_live
live_of w h o is e = ap is_none (sym is ∙ e)

-- ---- lists of outs

pub no_outs : (w : Words) (steps : List Step) (outs : List Out) → outs ≡ [] → AreOuts w steps outs
no_outs w steps outs e = record { each = λ h from to. absurd (omega (arith, from, to, ap (λ (xs : List Out). length xs) e)) }

pub more_outs : (w : Words) (steps : List Step) (outs more : List Out) (out : Out) (h : ℕ) → more ≡ outs ++ out ∷ [] →
    h ≡ length outs + 1 → AreOuts w steps outs → IsOutFor w steps h out → AreOuts w steps more
more_outs w steps outs more out h e last are is = subst (AreOuts w steps) (sym e) (record {
  each = λ g from to. elim (cases_lt (g - 1) (length outs)) [
    | inl below ↦ subst (IsOutFor w steps g) (sym (get_or_append_left outs (out ∷ []) kinds.Zero (g - 1) below)) (are.each g from (omega (arith, from, below)))
    | inr past ↦
        let count : length (outs ++ out ∷ []) ≡ length outs + 1 = length_push outs out in
        let same : g ≡ h = omega (arith, from, to, past, last, count) in
        let at : slice_index_or (outs ++ out ∷ []) (g - 1) kinds.Zero ≡ out = get_or_push outs out kinds.Zero (g - 1) (omega (arith, past, from, to, count)) in
        subst (IsOutFor w steps g) (sym at) (subst (λ (x : ℕ). IsOutFor w steps x out) (sym same) is)
  ];
})

pub ruleset sitting = (passing, sits, trivial_out, step_out, live_of, no_outs, more_outs)
