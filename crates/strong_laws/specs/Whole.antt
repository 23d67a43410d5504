-- The laws of the formula of SSV, strengthened, and what fences share.
use Rattle.std.proofs.Common.{◌≡◌, ℕ, List, true}
use Rattle.chain_theory.specs.Chain.{Chain}
use Rattle.chain_theory.specs.Agreement.{HasChain, IsMinimum}
use Rattle.op_basis.specs.Basis.{members}
use Rattle.op_basis.specs.Closed.{swap_closed}
use Rattle.chain_laws.specs.NormalForm.{IsNormalForm}
use Rattle.chain_laws.specs.Least.{minimum_is_in_normal_form}
use Rattle.sat_theory.specs.Formula.{IsFormula, Assignment, Satisfies}
use Rattle.tt_core.specs.Words.{Words, specification}
use Rattle.tt_core.specs.Live.{live_words}
use Rattle.clause_core.specs.Clauses.{IsSatisfiable}
use Rattle.clause_core.specs.Holds.{holds, both_hold}
use Rattle.clause_core.specs.WrittenLaws.{AreClauses, clauses_both}
use Rattle.enc_theory.specs.declared.data.Dimensions.{Dimensions}
use Rattle.enc_theory.specs.declared.data.Pair.{Pair}
use Rattle.enc_theory.specs.Numbering.{sizes_of}
use Rattle.enc_theory.specs.Pairs.{pairs_below, layout, vars_of}
use Rattle.enc_theory.specs.Families.{common}
use Rattle.enc_theory.specs.Cuts.{cuts}
use Rattle.enc_theory.specs.Ssv.{ssv_layout, ssv_live, ssv_formula}
use Rattle.enc_laws.specs.Layouts.{AreBelow, layout_is_laid}
use Rattle.enc_laws.specs.Decoded.{IsFor}
use Rattle.enc_laws.specs.Complete.{assignment_of}
use Rattle.enc_laws.specs.Laws.{IsAllowed, allowed_pairs, chain_satisfies, live_outs, part_is_all_live}
use Rattle.enc_laws.specs.Formulas.{common_clauses, layout_has_room}
use Rattle.enc_laws.specs.CutClauses.{cuts_clauses}
use Rattle.enc_laws.specs.Rests.{IsPlaced}
use Rattle.enc_laws.specs.Cuts.{cuts_hold}
use Rattle.enc_laws.specs.ByPairs.{part_minimum, formula_by}
use Rattle.enc_laws.specs.Ssv.{pairs_low, normal_form_allowed, ssv_sound}
use Rattle.strong_theory.specs.Strong.{strengthened, strong_live, strong_formula}
use Rattle.strong_laws.specs.Strengthened.{strong_bits, strengthened_holds, strengthened_has}
use Rattle.strong_laws.specs.StrongClauses.{strengthened_is_formula}

-- ---- encodings by pairs

module _ (pairs : ℕ → List Pair) (w : Words) (basis r : ℕ) (below : AreBelow w.n pairs) where
  -- the clauses of the formula are over its variables
  by_pairs_clauses : AreClauses (vars_of (sizes_of (live_words w) r) (layout pairs (sizes_of (live_words w) r))) (formula_by pairs (live_words w) basis r).clauses
  by_pairs_clauses =
      let z : Dimensions = sizes_of (live_words w) r in
      let laid = layout_is_laid pairs z below in
      let room = layout_has_room pairs z below in
      clauses_both (vars_of z (layout pairs z)) (common (live_words w) basis z (layout pairs z)) (cuts (live_words w) basis z (layout pairs z))
      (common_clauses (vars_of z (layout pairs z)) (live_words w) basis z (layout pairs z) room laid)
      (cuts_clauses (vars_of z (layout pairs z)) basis (live_words w) z (layout pairs z) room laid)

  pub strong_by_pairs_is_formula : IsFormula (strengthened (live_words w) (sizes_of (live_words w) r) (layout pairs (sizes_of (live_words w) r)) (formula_by pairs (live_words w) basis r))
  strong_by_pairs_is_formula =
      let z : Dimensions = sizes_of (live_words w) r in
      strengthened_is_formula (live_words w) r (layout pairs z) (formula_by pairs (live_words w) basis r)
      (layout_has_room pairs z below) (layout_is_laid pairs z below) by_pairs_clauses

  -- If the assignment of a chain satisfies the formula, its extension satisfies the strengthened one.
  pub chain_satisfies_strong : (c : Chain) → IsFor (live_words w) basis r c → IsAllowed pairs (live_words w) r c →
      holds (assignment_of (sizes_of (live_words w) r) (layout pairs (sizes_of (live_words w) r)) c) (formula_by pairs (live_words w) basis r).clauses ≡ true →
      IsSatisfiable (strengthened (live_words w) (sizes_of (live_words w) r) (layout pairs (sizes_of (live_words w) r)) (formula_by pairs (live_words w) basis r))
  chain_satisfies_strong c is allowed all =
      let z : Dimensions = sizes_of (live_words w) r in
      let placed : IsPlaced (live_words w) basis r (layout pairs z) c = record { is = is; laid = layout_is_laid pairs z below; pairs = allowed_pairs pairs (live_words w) r c below allowed } in (
        strong_bits (live_words w) r (layout pairs z) c (vars_of z (layout pairs z)),
        strengthened_holds (live_words w) basis r (layout pairs z) c (formula_by pairs (live_words w) basis r) placed
            (live_outs (live_words w) basis r c (part_is_all_live w) is) (layout_has_room pairs z below) by_pairs_clauses all,
      )

  -- The assignment of a chain in normal form does, so the extension satisfies the strengthened formula.
  pub normal_form_satisfies_strong : (c : Chain) → IsFor (live_words w) basis r c →
      IsNormalForm (members basis) (specification (live_words w)) c → IsAllowed pairs (live_words w) r c →
      IsSatisfiable (strengthened (live_words w) (sizes_of (live_words w) r) (layout pairs (sizes_of (live_words w) r)) (formula_by pairs (live_words w) basis r))
  normal_form_satisfies_strong c is normal_form allowed =
      let z : Dimensions = sizes_of (live_words w) r in
      let v : Assignment = assignment_of z (layout pairs z) c in
      let placed : IsPlaced (live_words w) basis r (layout pairs z) c = record { is = is; laid = layout_is_laid pairs z below; pairs = allowed_pairs pairs (live_words w) r c below allowed } in
      chain_satisfies_strong c is allowed
      (both_hold v (common (live_words w) basis z (layout pairs z)) (cuts (live_words w) basis z (layout pairs z))
      (chain_satisfies pairs (live_words w) basis r c below (part_is_all_live w) is allowed)
      (cuts_hold (live_words w) basis r (layout pairs z) c placed normal_form))

-- ---- strong

-- What satisfies the formula satisfies that of SSV.
pub strong_has_ssv : (w : Words) (basis r : ℕ) (v : Assignment) → Satisfies v (strong_formula w basis r) → Satisfies v (ssv_formula w basis r)
unfolding strong_formula strong_live ssv_formula
strong_has_ssv w basis r v satisfies = strengthened_has (live_words w) (sizes_of (live_words w) r) (ssv_layout basis (sizes_of (live_words w) r)) (ssv_live (live_words w) basis r) v satisfies

-- If the formula is satisfiable, a chain of r steps over the basis implements the tables.
pub strong_sound : (w : Words) (basis r : ℕ) → IsSatisfiable (strong_formula w basis r) → HasChain (specification w) (members basis) r
strong_sound w basis r (v, satisfies) = ssv_sound w basis r (v, strong_has_ssv w basis r v satisfies)

-- If a chain of r steps over the basis implements the tables and none of fewer steps does, the formula is
-- satisfiable.
pub strong_complete : (w : Words) (basis r : ℕ) → IsMinimum (specification w) (members basis) r → IsSatisfiable (strong_formula w basis r)
unfolding strong_formula strong_live ssv_live
strong_complete w basis r minimum =
    let least = minimum_is_in_normal_form (specification (live_words w)) (members basis) r (part_minimum w basis r minimum) in
    let is : IsFor (live_words w) basis r least.has.chain = record { is_chain = least.has.is_chain; size = least.has.size; is_over = least.has.is_over; agrees = least.has.agrees } in
    normal_form_satisfies_strong (pairs_below (swap_closed (members basis))) w basis r
    (pairs_low basis w) least.has.chain is least.normal_form
    (normal_form_allowed (live_words w) basis r least.has.chain is least.normal_form)

-- The formula is well-formed.
pub strong_is_formula : (w : Words) (basis r : ℕ) → IsFormula (strong_formula w basis r)
unfolding strong_formula strong_live ssv_live
strong_is_formula w basis r = strong_by_pairs_is_formula (pairs_below (swap_closed (members basis))) w basis r (pairs_low basis w)
