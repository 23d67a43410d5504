-- A chain for the live outputs has the steps of one for all outputs: the others are trivial.
use Rattle.std.proofs.Common.{◌≡◌, ℕ, ◌+◌, ◌-◌, ◌≤◌, ◌<◌, ◌⊎◌, true, List, length, Option, Some, None, refl, sym, ap, ◌∙◌, subst, arith, inl, inr}
use Rattle.std.specs.Prelude.{slice_index, slice_index_or}
use Rattle.std.proofs.lemmas.Bool.{cases_lt}
use Rattle.std.proofs.lemmas.List.{get_or_default}
use Rattle.std.proofs.lemmas.Option.{get_or_from_slice_get}
use Rattle.chain_theory.specs.Operator.{Basis}
use Rattle.chain_theory.specs.Chain.{Chain, AreSteps, IsChain, NamesPlace}
use Rattle.chain_theory.specs.Value.{values_on}
use Rattle.chain_theory.specs.Agreement.{is_met as is_met_by, Agrees, HasChain, NoneBelow}
use Rattle.chain_theory.specs.declared.data.Out.{Out}
use Rattle.chain_theory.specs.declared.data.Out.TheVariants as kinds
use Rattle.chain_laws.specs.Follow.{rebuilt, rebuilt_length, rebuilt_get}
use Rattle.chain_laws.specs.Bodies.{out_bit, out_value_is}
use Rattle.tt_core.specs.Words.{Words, specification, cell_of}
use Rattle.tt_core.specs.Live.{is_live, trivial_of, live_outputs, live_words}
use Rattle.tt_core.specs.LiveLaws.{words_count, live_cells}
use Rattle.tt_core.specs.LiveOutputLaws.{live_is_among}
use Rattle.step_core.specs.Outs.{IsOutFor, AreOuts}
use Rattle.step_core.specs.OutLaws.{trivial_out, live_of}
use Rattle.step_core.specs.LeastChainLaws.{made_outs}
use Rattle.step_core.specs.FreshLaws.{agrees_by}

-- the out of a live output
live_out : (w : Words) (c : Chain) (h : ℕ) → IsChain c → Agrees c (specification (live_words w)) → 1 ≤ h → h ≤ length w.on →
    is_live (specification w) h ≡ true → (out : Out) × IsOutFor w c.steps h out
live_out w c h chain agrees from to live =
    let numbers : List ℕ = live_outputs (specification w) in
    let found = live_is_among (specification w) (length w.on) h from to live in
    let lives : length (live_words w).on ≡ length numbers = words_count w.on numbers in
    let g : ℕ = found.0 + 1 in
    let own : g - 1 ≡ found.0 = omega arith in
    let at : slice_index numbers (g - 1) ≡ h = ap (slice_index numbers) own ∙ get_or_default numbers found.0 0 h found.1 ∙ found.2 in
    let out : Out = slice_index_or c.outs (g - 1) kinds.Zero in (
      out,
      record {
        names = subst (λ (n : ℕ). NamesPlace (n + length c.steps) out) agrees.inputs (chain.outs (g - 1) kinds.Zero (omega (arith, found.1, lives, agrees.outputs)));
        met = λ t low.
            ap (λ (k : ℕ). is_met_by (cell_of w k t) (out_bit (values_on w.n t c.steps) out)) (sym at)
            ∙ ap (λ (cell : _). is_met_by cell (out_bit (values_on w.n t c.steps) out)) (sym (live_cells w g t (omega arith) (omega (arith, found.1))))
            ∙ ap (is_met_by (cell_of (live_words w) g t)) (ap (λ (n : ℕ). out_bit (values_on n t c.steps) out) (sym agrees.inputs) ∙ sym (out_value_is c t out))
            ∙ agrees.cells g t (omega arith) (omega (arith, found.1, lives)) low;
      },
    )

some_out : (w : Words) (c : Chain) (h : ℕ) (o : Option Out) → IsChain c → Agrees c (specification (live_words w)) → 1 ≤ h →
    h ≤ length w.on → o ≡ trivial_of (specification w) h → (out : Out) × IsOutFor w c.steps h out
some_out w c h (Some out) chain agrees from to e = (out, trivial_out w c.steps h (Some out) out e refl)
some_out w c h None chain agrees from to e = live_out w c h chain agrees from to (live_of w h None e refl)

chosen : (w : Words) (c : Chain) (i : ℕ) → IsChain c → Agrees c (specification (live_words w)) →
    (i < length w.on) ⊎ (length w.on ≤ i) → (out : Out) × (i < length w.on → IsOutFor w c.steps (i + 1) out)
chosen w c i chain agrees (inr past) = (kinds.Zero, λ low. absurd (omega (arith, past, low)))
chosen w c i chain agrees (inl low) =
    let found = some_out w c (i + 1) (trivial_of (specification w) (i + 1)) chain agrees (omega arith) (omega (arith, low)) refl in
    (found.0, λ inside. found.1)

whole_chain : (w : Words) (basis : Basis) (q : ℕ) → HasChain (specification (live_words w)) basis q → HasChain (specification w) basis q
whole_chain w basis q has =
    let c : Chain = has.chain in
    let m : ℕ = length w.on in
    let f : ℕ → Out = λ i. (chosen w c i has.is_chain has.agrees (cases_lt i m)).0 in
    let outs : List Out = rebuilt f m in
    let count : length outs ≡ m = rebuilt_length f m in
    let are : AreOuts w c.steps outs = record {
      each = λ h from to.
          let low : h - 1 < m = omega (arith, from, to, count) in
          let own : h - 1 + 1 ≡ h = omega (arith, from) in
          subst (IsOutFor w c.steps h) (sym (get_or_from_slice_get outs (h - 1) (f (h - 1)) kinds.Zero (rebuilt_get f m (h - 1) low)))
          (subst (λ (k : ℕ). IsOutFor w c.steps k (f (h - 1))) own ((chosen w c (h - 1) has.is_chain has.agrees (cases_lt (h - 1) m)).1 low));
    } in
    record {
      chain = record { n = w.n; steps = c.steps; outs = outs };
      is_chain = record { steps = subst (λ (n : ℕ). AreSteps n c.steps) has.agrees.inputs has.is_chain.steps; outs = made_outs w c.steps outs are };
      size = has.size;
      is_over = has.is_over;
      agrees = agrees_by w c.steps outs count are;
    }

-- no chain of fewer steps for all outputs, so none for the live ones
pub live_none : (w : Words) (basis : Basis) (size : ℕ) → NoneBelow (specification w) basis size → NoneBelow (specification (live_words w)) basis size
live_none w basis size none q low has = none q low (whole_chain w basis q has)
