-- What the encodings by pairs with symmetry-breaking constraints share, whatever pairs the steps may have.
use Rattle.std.proofs.Common.{◌≡◌, ℕ, ◌+◌, ◌++◌, List, Some, map, Contains, sym, subst}
use Rattle.std.specs.Prelude.{slice_get}
use Rattle.chain_theory.specs.Chain.{Step, Chain}
use Rattle.chain_theory.specs.Agreement.{HasChain, IsMinimum}
use Rattle.op_basis.specs.Basis.{members}
use Rattle.chain_laws.specs.NormalForm.{IsNormalForm}
use Rattle.sat_theory.specs.Formula.{Formula, IsFormula, Assignment, Satisfies}
use Rattle.tt_core.specs.Words.{Words, specification}
use Rattle.tt_core.specs.Live.{live_words}
use Rattle.enc_theory.specs.declared.data.Dimensions.{Dimensions}
use Rattle.enc_theory.specs.declared.data.Pair.{Pair}
use Rattle.clause_core.specs.Clauses.{IsSatisfiable}
use Rattle.enc_theory.specs.Numbering.{sizes_of, s_first}
use Rattle.enc_theory.specs.Pairs.{pair, layout, vars_of}
use Rattle.enc_theory.specs.Families.{common}
use Rattle.enc_theory.specs.Cuts.{cuts}
use Rattle.enc_theory.specs.Decode.{decoded_step, decoded}
use Rattle.clause_core.specs.Holds.{holds_both, both_hold, holds_satisfied, satisfied_holds}
use Rattle.enc_laws.specs.Layouts.{AreBelow, layout_is_laid, laid_slot}
use Rattle.enc_laws.specs.Solves.{solves_from}
use Rattle.enc_laws.specs.Sound.{decoded_is}
use Rattle.enc_laws.specs.Live.{whole_chain, restored_is_chain, restored_agrees, picked}
use Rattle.clause_core.specs.WrittenLaws.{are_formula, clauses_both}
use Rattle.enc_laws.specs.Formulas.{common_clauses, layout_has_room}
use Rattle.enc_laws.specs.CutClauses.{cuts_clauses}
use Rattle.enc_laws.specs.Decoded.{IsFor, for_is_there, decoded_is_for}
use Rattle.enc_laws.specs.Complete.{assignment_of}
use Rattle.enc_laws.specs.Laws.{IsAllowed, allowed_pairs, chain_satisfies, part_is_all_live, picked_is_for}
use Rattle.enc_laws.specs.Rests.{IsPlaced}
use Rattle.enc_laws.specs.Cuts.{cuts_hold}

-- ---- minimum sizes, of the tables and of their live outputs

-- if the live outputs have a chain, the tables have one
pub whole_has : (w : Words) (basis r : ℕ) → HasChain (specification (live_words w)) (members basis) r → HasChain (specification w) (members basis) r
whole_has w basis r has = record {
  chain = whole_chain w has.chain;
  is_chain = restored_is_chain w has.chain has.is_chain has.agrees.inputs has.agrees.outputs;
  size = has.size;
  is_over = has.is_over;
  agrees = restored_agrees w has.chain has.agrees;
}

pub is_for : (w : Words) (basis r : ℕ) (has : HasChain (specification w) (members basis) r) → IsFor w basis r has.chain
is_for w basis r has = record { is_chain = has.is_chain; size = has.size; is_over = has.is_over; agrees = has.agrees }

pub part_minimum : (w : Words) (basis r : ℕ) → IsMinimum (specification w) (members basis) r → IsMinimum (specification (live_words w)) (members basis) r
part_minimum w basis r minimum = record {
  reached = for_is_there (live_words w) basis r (picked w minimum.reached.chain) (picked_is_for w basis r minimum.reached.chain (is_for w basis r minimum.reached));
  none_fewer = λ q less has. minimum.none_fewer q less (whole_has w basis q has);
}

-- ---- formulas by pairs

-- the formula for tables whose outputs are all live, over given pairs
abbrev pub formula_by : (ℕ → List Pair) → Words → ℕ → ℕ → Formula
formula_by pairs w basis r =
    let z = sizes_of w r in
    record { vars = vars_of z (layout pairs z); clauses = common w basis z (layout pairs z) ++ cuts w basis z (layout pairs z) }

module _ (pairs : ℕ → List Pair) (w : Words) (basis r : ℕ) (below : AreBelow w.n pairs) where
  pub by_pairs_decodes : (v : Assignment) → Satisfies v (formula_by pairs (live_words w) basis r) → IsFor w basis r (decoded w (sizes_of (live_words w) r) (layout pairs (sizes_of (live_words w) r)) v)
  by_pairs_decodes v satisfies =
      let z : Dimensions = sizes_of (live_words w) r in
      let (chain, cut) = holds_both v (common (live_words w) basis z (layout pairs z))
      (cuts (live_words w) basis z (layout pairs z))
      (holds_satisfied v (formula_by pairs (live_words w) basis r) satisfies) in
      decoded_is_for w basis r (layout pairs z) v (layout_is_laid pairs z below) chain

  -- Each step that is spelled has one of its given pairs.
  pub by_pairs_has_pair : (v : Assignment) → Satisfies v (formula_by pairs (live_words w) basis r) → (i : ℕ) (d : Step)
      → slice_get (map (decoded_step (sizes_of (live_words w) r) v) (layout pairs (sizes_of (live_words w) r))) i ≡ Some d → Contains (pairs (w.n + 1 + i)) (pair d.j d.k)
  by_pairs_has_pair v satisfies i d at =
      let z : Dimensions = sizes_of (live_words w) r in
      let laid = layout_is_laid pairs z below in
      let (chain, cut) = holds_both v (common (live_words w) basis z (layout pairs z))
      (cuts (live_words w) basis z (layout pairs z))
      (holds_satisfied v (formula_by pairs (live_words w) basis r) satisfies) in
      let is = decoded_is (live_words w) basis z (layout pairs z) v i d laid (solves_from (live_words w) basis z (layout pairs z) v laid chain) at in
      let slot = laid_slot pairs (s_first z) (z.n + 1) z.r is.from is.slot is.has in
      subst (λ (place : ℕ). Contains (pairs place) (pair d.j d.k)) is.place (subst (λ (s : Step). Contains (pairs is.from.place) (pair s.j s.k)) (sym is.is) slot.has)

  -- The assignment of a chain in normal form satisfies the formula.
  pub normal_form_satisfies : (c : Chain) → IsFor (live_words w) basis r c →
      IsNormalForm (members basis) (specification (live_words w)) c → IsAllowed pairs (live_words w) r c →
      IsSatisfiable (formula_by pairs (live_words w) basis r)
  normal_form_satisfies c is normal_form allowed =
      let z : Dimensions = sizes_of (live_words w) r in
      let v : Assignment = assignment_of z (layout pairs z) c in
      let placed : IsPlaced (live_words w) basis r (layout pairs z) c = record { is = is; laid = layout_is_laid pairs z below; pairs = allowed_pairs pairs (live_words w) r c below allowed } in (
        assignment_of z (layout pairs z) c,
        satisfied_holds v (formula_by pairs (live_words w) basis r)
            (both_hold v (common (live_words w) basis z (layout pairs z)) (cuts (live_words w) basis z (layout pairs z))
            (chain_satisfies pairs (live_words w) basis r c below (part_is_all_live w) is allowed)
            (cuts_hold (live_words w) basis r (layout pairs z) c placed normal_form)),
      )

  pub by_pairs_is_formula : IsFormula (formula_by pairs (live_words w) basis r)
  by_pairs_is_formula =
      let z : Dimensions = sizes_of (live_words w) r in
      let laid = layout_is_laid pairs z below in
      let room = layout_has_room pairs z below in
      are_formula (formula_by pairs (live_words w) basis r) (clauses_both (vars_of z (layout pairs z)) (common (live_words w) basis z (layout pairs z)) (cuts (live_words w) basis z (layout pairs z))
      (common_clauses (vars_of z (layout pairs z)) (live_words w) basis z (layout pairs z) room laid)
      (cuts_clauses (vars_of z (layout pairs z)) basis (live_words w) z (layout pairs z) room laid))
