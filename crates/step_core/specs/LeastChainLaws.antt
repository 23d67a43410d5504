-- The chain of a solution implements the specification; without a solution no chain of so few steps does.
use Rattle.std.proofs.Common.{◌≡◌, ℕ, zero, suc, ◌+◌, ◌-◌, ◌<◌, ◌≤◌, Bool, true, false, not, List, [], ◌∷◌, length, All, refl, sym, ap, ◌∙◌, subst, arith}
use Rattle.std.specs.Prelude.{slice_index, slice_index_or}
use Rattle.std.proofs.lemmas.Grind.{common_steps}
use Rattle.std.proofs.lemmas.List.{get_or-map, get_or_default}
use Rattle.chain_theory.specs.Operator.{Basis}
use Rattle.chain_theory.specs.Chain.{Step, Chain, AreSteps, NamesPlace}
use Rattle.chain_theory.specs.Agreement.{is_met as is_met_by, NoneBelow}
use Rattle.chain_theory.specs.declared.data.Out.{Out}
use Rattle.chain_theory.specs.declared.data.Out.TheVariants as kinds
use Rattle.chain_laws.specs.Bodies.{out_value_is}
use Rattle.tt_core.specs.Words.{Words, IsSpec, specification, cell_of}
use Rattle.tt_core.specs.Live.{live_outputs, live_words, words_of}
use Rattle.tt_core.specs.LiveLaws.{words_count}
use Rattle.tt_core.specs.LiveOutputLaws.{live_is_among}
use Rattle.bound_core.specs.Counts.{some_below}
use Rattle.bound_core.specs.CountLaws.{some_passes}
use Rattle.chain_core.specs.Steps.{steps_of, IsSmallChain}
use Rattle.chain_core.specs.declared.step.Step as held
use Rattle.step_core.specs.LeastChains.{IsLeastChain, IsChainWithin}
use Rattle.step_core.specs.Steps.{IsSolution, AreOver, misses, meets_at, is_met, is_missing, all_met}
use Rattle.step_core.specs.StepStacks.{StackView, IsStepStack}
use Rattle.step_core.specs.Outs.{AreMet, AreOuts}
use Rattle.step_core.specs.Enumeration.{NoneFrom}
use Rattle.step_core.specs.LoopLaws.{none_passes}
use Rattle.step_core.specs.NormalSolutionLaws.{met_at, live_are, none_more, none_live}

-- ---- lists

same_default : (outs : List Out) (i : ℕ) (d e : Out) → i < length outs → slice_index_or outs i d ≡ slice_index_or outs i e
same_default [] i d e low = absurd (omega (arith, low))
same_default (x ∷ outs) zero d e low = refl
same_default (x ∷ outs) (suc i) d e low = same_default outs i d e (omega (arith, low))

-- ---- outputs that are met

not_false : (b : Bool) → not b ≡ false → b ≡ true
not_false true e = refl
not_false false e = absurd cc

not_true : (b : Bool) → not b ≡ true → b ≡ false
not_true true e = absurd cc
not_true false e = refl

met_each : (w : Words) (steps : List Step) (i : ℕ) → all_met w steps ≡ true → i < length w.on → is_met w steps i ≡ true
unfolding all_met is_missing
met_each w steps i all low = not_false (is_met w steps i) (none_passes (is_missing w steps) (length w.on) i (not_true (some_below (is_missing w steps) (length w.on)) all) low)

-- the word of a live output is the word at its index among the live outputs
live_word : (w : Words) (words : List ℕ) (h i : ℕ) → i < length (live_outputs (specification w)) →
    slice_index (live_outputs (specification w)) i ≡ h →
    slice_index (words_of words (live_outputs (specification w))) i ≡ slice_index words (h - 1)
unfolding words_of
live_word w words h i low e = get_or-map (λ g. slice_index words (g - 1)) (live_outputs (specification w)) i 0 0 low ∙ ap (λ (g : ℕ). slice_index words (g - 1)) e

live_meets : (w : Words) (steps : List Step) (h i k : ℕ) → i < length (live_outputs (specification w)) →
    slice_index (live_outputs (specification w)) i ≡ h → meets_at (live_words w) steps i k ≡ meets_at w steps (h - 1) k
unfolding meets_at misses
live_meets w steps h i k low e = rw (live_word w w.on h i low e, live_word w w.care h i low e) refl

pub are_met : (w : Words) (basis : Basis) (steps : List Step) → IsSolution (live_words w) basis steps → AreMet w steps
unfolding is_met
are_met w basis steps solution = record {
  each = λ h from to live.
      let c = live_is_among (specification w) (length w.on) h from to live in
      let at : slice_index (live_outputs (specification w)) c.0 ≡ h = get_or_default (live_outputs (specification w)) c.0 0 h c.1 ∙ c.2 in
      let here : is_met (live_words w) steps c.0 ≡ true = met_each (live_words w) steps c.0 solution.met (omega (arith, c.1, words_count w.on (live_outputs (specification w)))) in
      let found = some_passes (meets_at (live_words w) steps c.0) (length steps) here in
      met_at w steps (h - 1) found.0 found.1 (sym (live_meets w steps h c.0 found.0 c.1 at) ∙ found.2);
}

-- ---- the chain of a solution

pub made_outs : (w : Words) (steps : List Step) (outs : List Out) → AreOuts w steps outs → All (NamesPlace (w.n + length steps)) outs
made_outs w steps outs are = λ i d low.
    let own : i + 1 - 1 ≡ i = omega arith in
    subst (NamesPlace (w.n + length steps)) (ap (λ (x : ℕ). slice_index_or outs x kinds.Zero) own ∙ same_default outs i kinds.Zero d low) (are.each (i + 1) (omega arith) (omega (arith, low))).names

made_small : (w : Words) (steps : List Step) (outs : List Out) → IsSpec w →
    IsStepStack (record { n = w.n; steps = steps }) → length outs ≡ length w.on → AreOuts w steps outs →
    IsSmallChain (record { n = w.n; steps = steps; outs = outs })
made_small w steps outs spec stack count are = record {
  chain = record { steps = stack.are; outs = made_outs w steps outs are };
  inputs = spec.inputs;
  steps = omega (arith, stack.few);
  outs = omega (arith, count, spec.outputs);
}

made_fitting : (w : Words) (basis : Basis) (steps : List Step) (outs : List Out) → IsSpec w →
    IsStepStack (record { n = w.n; steps = steps }) → AreOver basis steps → length outs ≡ length w.on →
    AreOuts w steps outs → IsChainWithin (specification w) basis (length steps) (record {
      n = w.n;
      steps = steps;
      outs = outs;
    })
made_fitting w basis steps outs spec stack over count are = record {
  small = made_small w steps outs spec stack count are;
  few = omega arith;
  over = over;
  agrees = record {
    inputs = refl;
    outputs = count;
    cells = λ h t from to low.
        ap (is_met_by (cell_of w h t)) (out_value_is (record { n = w.n; steps = steps; outs = outs }) t (slice_index_or outs (h - 1) kinds.Zero))
        ∙ (are.each h from (omega (arith, to, count))).met t low;
  };
}

-- the chain that the program builds
abbrev chain_with : ℕ → List held.Step → List Out → Chain
chain_with n steps outs = record { n = n; steps = steps_of steps; outs = outs }

chain_is : (w : Words) (t : StackView) (n : ℕ) (steps : List held.Step) (outs : List Out) → n ≡ t.n → t.n ≡ w.n →
    steps_of steps ≡ t.steps → record { n = w.n; steps = t.steps; outs = outs } ≡ chain_with n steps outs
chain_is w t n steps outs seen inputs are = rw (seen, inputs, are) refl

stack_is : (w : Words) (t : StackView) → t.n ≡ w.n → IsStepStack t → IsStepStack (record { n = w.n; steps = t.steps })
stack_is w t inputs is = record { inputs = subst (λ (n : ℕ). n ≤ 6) inputs is.inputs; few = is.few; are = subst (λ (n : ℕ). AreSteps n t.steps) inputs is.are }

pub small_made : (w : Words) (t : StackView) (n : ℕ) (steps : List held.Step) (outs : List Out) → IsSpec w →
    IsStepStack t → n ≡ t.n → t.n ≡ w.n → steps_of steps ≡ t.steps → length outs ≡ length w.on →
    AreOuts w t.steps outs → IsSmallChain (chain_with n steps outs)
small_made w t n steps outs spec stack seen inputs are count each =
    subst IsSmallChain (chain_is w t n steps outs seen inputs are)
    (made_small w t.steps outs spec (stack_is w t inputs stack) count each)

pub fitting_made : (w : Words) (basis : Basis) (t : StackView) (n : ℕ) (steps : List held.Step) (outs : List Out)
    (c : Chain) → IsSpec w → IsStepStack t → n ≡ t.n → t.n ≡ w.n → steps_of steps ≡ t.steps → AreOver basis t.steps →
    length outs ≡ length w.on → AreOuts w t.steps outs → c ≡ chain_with n steps outs →
    IsChainWithin (specification w) basis (length t.steps) c
fitting_made w basis t n steps outs c spec stack seen inputs are over count each e =
    subst (IsChainWithin (specification w) basis (length t.steps)) (chain_is w t n steps outs seen inputs are
    ∙ sym e) (made_fitting w basis t.steps outs spec (stack_is w t inputs stack) over count each)

pub fitting_most : (w : Words) (basis : Basis) (size most : ℕ) (c : Chain) → IsChainWithin (specification w) basis size c → size ≤ most → IsChainWithin (specification w) basis most c
fitting_most w basis size most c fits low = record { small = fits.small; few = omega (arith, fits.few, low); over = fits.over; agrees = fits.agrees }

-- ---- sizes in turn

-- no chain of fewer steps implements the live outputs
pub record HasNoneBelow (w : Words) (basis : Basis) (size : ℕ) : Type 0 where
  pub none : NoneBelow (specification w) basis size

pub clear_none : (w : Words) (basis : Basis) → HasNoneBelow w basis 0
clear_none w basis = record { none = λ q low has. omega (arith, low) }

pub clear_more : (w live : Words) (basis : Basis) (size : ℕ) → live ≡ live_words w → IsSpec live → HasNoneBelow live basis size → NoneFrom live basis [] size → HasNoneBelow live basis (size + 1)
clear_more w live basis size is spec clear none = subst (λ (x : Words). HasNoneBelow x basis (size + 1)) (sym is) (record {
  none = none_more (live_words w) basis size (subst IsSpec is spec) (live_are w)
      (subst (λ (x : Words). HasNoneBelow x basis size) is clear).none
      (subst (λ (x : Words). NoneFrom x basis [] size) is none);
})

pub clear_whole : (w live : Words) (basis : Basis) (size count : ℕ) → live ≡ live_words w → HasNoneBelow live basis size → count ≡ size → NoneBelow (specification w) basis count
clear_whole w live basis size count is clear same = subst (NoneBelow (specification w) basis) (sym same) (none_live w basis size (subst (λ (x : Words). HasNoneBelow x basis size) is clear).none)

pub fitting_least : (w : Words) (basis : Basis) (size most : ℕ) (c : Chain) →
    IsChainWithin (specification w) basis size c → NoneBelow (specification w) basis size → size ≤ most →
    IsLeastChain (specification w) basis most c
fitting_least w basis size most c fits none low = record {
  small = fits.small;
  few = omega (arith, fits.few, low);
  over = fits.over;
  agrees = fits.agrees;
  least = λ q below has. none q (omega (arith, below, fits.few)) has;
}

pub ruleset answering = (common_steps, are_met, small_made, clear_none, clear_more)
