-- The laws of the formula by SSV, strengthened, with the exchange cut; and what fences share.
use Rattle.std.proofs.Common.{ℕ, ◌++◌, List}
use Rattle.chain_theory.specs.Chain.{Chain}
use Rattle.chain_theory.specs.Agreement.{HasChain, IsMinimum}
use Rattle.op_basis.specs.Basis.{members}
use Rattle.op_basis.specs.Closed.{swap_closed}
use Rattle.chain_laws.specs.NormalForm.{HasNormalFormChain, IsNormalForm}
use Rattle.sat_theory.specs.Formula.{Formula, IsFormula, Assignment, Satisfies}
use Rattle.tt_core.specs.Words.{Words, specification}
use Rattle.tt_core.specs.Live.{live_words}
use Rattle.clause_core.specs.Clauses.{IsSatisfiable}
use Rattle.clause_core.specs.Holds.{both_hold}
use Rattle.clause_core.specs.WrittenLaws.{AreClauses, clauses_both}
use Rattle.enc_theory.specs.declared.data.Dimensions.{Dimensions}
use Rattle.enc_theory.specs.declared.data.Pair.{Pair}
use Rattle.enc_theory.specs.Numbering.{sizes_of}
use Rattle.enc_theory.specs.Pairs.{pairs_below, layout, vars_of}
use Rattle.enc_theory.specs.Families.{common}
use Rattle.enc_theory.specs.Cuts.{cuts}
use Rattle.enc_theory.specs.Ssv.{ssv_layout, ssv_live, ssv_formula}
use Rattle.enc_laws.specs.Layouts.{AreBelow, layout_is_laid, pairs_are_below}
use Rattle.enc_laws.specs.Decoded.{IsFor}
use Rattle.enc_laws.specs.Complete.{assignment_of}
use Rattle.enc_laws.specs.Laws.{IsAllowed, allowed_pairs, chain_satisfies, live_outs, part_is_all_live}
use Rattle.enc_laws.specs.Formulas.{common_clauses, layout_has_room}
use Rattle.enc_laws.specs.CutClauses.{cuts_clauses}
use Rattle.enc_laws.specs.Rests.{IsPlaced}
use Rattle.enc_laws.specs.Cuts.{cuts_hold}
use Rattle.enc_laws.specs.ByPairs.{part_minimum, formula_by}
use Rattle.enc_laws.specs.Ssv.{normal_form_allowed, ssv_sound}
use Rattle.strong_theory.specs.Strong.{strengthened}
use Rattle.strong_laws.specs.Strengthened.{strong_bits, strengthened_holds, strengthened_has}
use Rattle.strong_laws.specs.StrongClauses.{strengthened_is_formula}
use Rattle.npn_laws.specs.Least.{IsExchangeCut, HasExchangeCutChain, minimum_meets_cut}
use Rattle.npn_strong.specs.Cut.{npn_exchange, with_exchanges, npn_live, npn_formula}
use Rattle.npn_strong.specs.CutHolds.{npn_exchange_holds, npn_exchange_clauses, exchanges_have}

-- ---- encodings by pairs

-- the formula with the cut, before it is strengthened
abbrev pub cut_by : (ℕ → List Pair) → Words → ℕ → ℕ → Formula
cut_by pairs w basis r = with_exchanges w basis (layout pairs (sizes_of w r)) (formula_by pairs w basis r)

module _ (pairs : ℕ → List Pair) (w : Words) (basis r : ℕ) (below : AreBelow w.n pairs) where
  -- the clauses of the formula are over its variables
  cut_clauses : AreClauses (vars_of (sizes_of (live_words w) r) (layout pairs (sizes_of (live_words w) r))) (cut_by pairs (live_words w) basis r).clauses
  unfolding with_exchanges
  cut_clauses =
      let z : Dimensions = sizes_of (live_words w) r in
      let laid = layout_is_laid pairs z below in
      let room = layout_has_room pairs z below in
      let vars : ℕ = vars_of z (layout pairs z) in
      clauses_both vars (common (live_words w) basis z (layout pairs z) ++ cuts (live_words w) basis z (layout pairs z))
      (npn_exchange basis (live_words w) (layout pairs z))
      (clauses_both vars (common (live_words w) basis z (layout pairs z)) (cuts (live_words w) basis z (layout pairs z))
      (common_clauses vars (live_words w) basis z (layout pairs z) room laid)
      (cuts_clauses vars basis (live_words w) z (layout pairs z) room laid))
      (npn_exchange_clauses vars basis (live_words w) z (layout pairs z) room laid)

  pub cut_is_formula : IsFormula (strengthened (live_words w) (sizes_of (live_words w) r) (layout pairs (sizes_of (live_words w) r))
      (cut_by pairs (live_words w) basis r))
  unfolding with_exchanges
  cut_is_formula =
      let z : Dimensions = sizes_of (live_words w) r in
      strengthened_is_formula (live_words w) r (layout pairs z) (cut_by pairs (live_words w) basis r)
      (layout_has_room pairs z below) (layout_is_laid pairs z below) cut_clauses

  -- The extended assignment of a chain in normal form that meets the cut satisfies the formula.
  pub cut_satisfied : (c : Chain) → IsFor (live_words w) basis r c → IsNormalForm (members basis) (specification (live_words w)) c →
      IsExchangeCut (members basis) (specification (live_words w)) c → IsAllowed pairs (live_words w) r c →
      IsSatisfiable (strengthened (live_words w) (sizes_of (live_words w) r) (layout pairs (sizes_of (live_words w) r)) (cut_by pairs (live_words w) basis r))
  unfolding with_exchanges
  cut_satisfied c is normal_form cut allowed =
      let z : Dimensions = sizes_of (live_words w) r in
      let v : Assignment = assignment_of z (layout pairs z) c in
      let placed : IsPlaced (live_words w) basis r (layout pairs z) c = record {
        is = is;
        laid = layout_is_laid pairs z below;
        pairs = allowed_pairs pairs
            (live_words w) r c below allowed;
      } in (
        strong_bits (live_words w) r (layout pairs z) c (vars_of z (layout pairs z)),
        strengthened_holds (live_words w) basis r (layout pairs z) c (cut_by pairs (live_words w) basis r) placed
            (live_outs (live_words w) basis r c (part_is_all_live w) is) (layout_has_room pairs z below) cut_clauses
            (both_hold v (common (live_words w) basis z (layout pairs z) ++ cuts (live_words w) basis z (layout pairs z))
            (npn_exchange basis (live_words w) (layout pairs z))
            (both_hold v (common (live_words w) basis z (layout pairs z)) (cuts (live_words w) basis z (layout pairs z))
            (chain_satisfies pairs (live_words w) basis r c below (part_is_all_live w) is allowed)
            (cuts_hold (live_words w) basis r (layout pairs z) c placed normal_form))
            (npn_exchange_holds (live_words w) basis r (layout pairs z) c placed cut)),
      )

-- ---- SSV

pairs_low : (basis : ℕ) (w : Words) → AreBelow w.n (pairs_below (swap_closed (members basis)))
pairs_low basis w = pairs_are_below (swap_closed (members basis)) w.n

-- What satisfies the formula satisfies that of SSV.
pub npn_has_ssv : (w : Words) (basis r : ℕ) (v : Assignment) → Satisfies v (npn_formula w basis r) → Satisfies v (ssv_formula w basis r)
unfolding npn_formula npn_live ssv_formula
npn_has_ssv w basis r v satisfies =
    let z : Dimensions = sizes_of (live_words w) r in
    exchanges_have (live_words w) basis (ssv_layout basis z) (ssv_live (live_words w) basis r) v
    (strengthened_has (live_words w) z (ssv_layout basis z) (with_exchanges (live_words w) basis (ssv_layout basis z)
    (ssv_live (live_words w) basis r)) v satisfies)

-- If the formula is satisfiable, a chain of r steps over the basis implements the tables.
pub npn_sound : (w : Words) (basis r : ℕ) → IsSatisfiable (npn_formula w basis r) → HasChain (specification w) (members basis) r
npn_sound w basis r (v, satisfies) = ssv_sound w basis r (v, npn_has_ssv w basis r v satisfies)

-- If a chain of r steps over the basis implements the tables and none of fewer steps does, the formula is satisfiable.
pub npn_complete : (w : Words) (basis r : ℕ) → IsMinimum (specification w) (members basis) r → IsSatisfiable (npn_formula w basis r)
unfolding npn_formula npn_live ssv_live
npn_complete w basis r minimum =
    let found : HasExchangeCutChain (specification (live_words w)) (members basis) r r = minimum_meets_cut (specification (live_words w)) (members basis) r
    (part_minimum w basis r minimum) in
    let least : HasNormalFormChain (specification (live_words w)) (members basis) r r = found.normal in
    let is : IsFor (live_words w) basis r least.has.chain = record {
      is_chain = least.has.is_chain;
      size = least.has.size;
      is_over = least.has.is_over;
      agrees = least.has.agrees;
    } in
    cut_satisfied (pairs_below (swap_closed (members basis))) w basis r
    (pairs_low basis w) least.has.chain is least.normal_form found.cut
    (normal_form_allowed (live_words w) basis r least.has.chain is least.normal_form)

-- The formula is well-formed.
pub npn_is_formula : (w : Words) (basis r : ℕ) → IsFormula (npn_formula w basis r)
unfolding npn_formula npn_live ssv_live
npn_is_formula w basis r = cut_is_formula (pairs_below (swap_closed (members basis))) w basis r (pairs_low basis w)
