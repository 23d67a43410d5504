-- The laws of SSV with symmetry-breaking constraints.
use Rattle.std.proofs.Common.{ℕ, ◌+◌, ◌-◌}
use Rattle.chain_theory.specs.Chain.{Chain}
use Rattle.chain_theory.specs.Agreement.{HasChain, IsMinimum}
use Rattle.op_basis.specs.Basis.{members}
use Rattle.op_basis.specs.Closed.{swap_closed}
use Rattle.chain_laws.specs.NormalForm.{IsNormalForm}
use Rattle.chain_laws.specs.Least.{minimum_is_in_normal_form}
use Rattle.sat_theory.specs.Formula.{IsFormula, Assignment, Satisfies}
use Rattle.tt_core.specs.Words.{Words, specification}
use Rattle.tt_core.specs.Live.{live_words}
use Rattle.clause_core.specs.Clauses.{IsSatisfiable}
use Rattle.enc_theory.specs.Pairs.{pairs_below}
use Rattle.enc_theory.specs.Ssv.{ssv_live, ssv_formula, ssv_decoded}
use Rattle.enc_laws.specs.Layouts.{AreBelow, pairs_are_below, pair_is_there}
use Rattle.enc_laws.specs.Decoded.{IsFor, for_is_there}
use Rattle.enc_laws.specs.Complete.{step_at, step_below, step_there}
use Rattle.enc_laws.specs.Laws.{IsAllowed}
use Rattle.enc_laws.specs.ByPairs.{part_minimum, by_pairs_decodes, normal_form_satisfies, by_pairs_is_formula}

-- the pairs below a place are of lower places
pub pairs_low : (basis : ℕ) (w : Words) → AreBelow w.n (pairs_below (swap_closed (members basis)))
pairs_low basis w = pairs_are_below (swap_closed (members basis)) w.n

-- A satisfying assignment spells a chain of r steps over the basis that implements the tables.
pub ssv_decodes : (w : Words) (basis r : ℕ) (v : Assignment) → Satisfies v (ssv_formula w basis r) → IsFor w basis r (ssv_decoded w basis r v)
unfolding ssv_formula ssv_live ssv_decoded
ssv_decodes w basis r v satisfies = by_pairs_decodes (pairs_below (swap_closed (members basis))) w basis r (pairs_low basis w) v satisfies

-- If the formula is satisfiable, a chain of r steps over the basis implements the tables.
pub ssv_sound : (w : Words) (basis r : ℕ) → IsSatisfiable (ssv_formula w basis r) → HasChain (specification w) (members basis) r
ssv_sound w basis r (v, satisfies) = for_is_there w basis r (ssv_decoded w basis r v) (ssv_decodes w basis r v satisfies)

-- the pairs of a chain in normal form are those of the encoding
pub normal_form_allowed : (w : Words) (basis r : ℕ) (c : Chain) → IsFor w basis r c → IsNormalForm (members basis) (specification w) c → IsAllowed (pairs_below (swap_closed (members basis))) w r c
normal_form_allowed w basis r c is normal_form = record {
  each = λ i place.
      let below = step_below w basis r c is i place in
      pair_is_there (swap_closed (members basis)) i (step_at c i).j (step_at c i).k (record { j_from = below.j_from; j_below = below.j_below; k_from = below.k_from; k_below = below.k_below })
      (λ closed. normal_form.operands_rise closed (i - (c.n + 1)) (step_at c i) (step_there w basis r c is i place));
}

-- If a chain of r steps over the basis implements the tables and none of fewer steps does, the formula is
-- satisfiable: the constraints keep a minimum chain.
pub ssv_complete : (w : Words) (basis r : ℕ) → IsMinimum (specification w) (members basis) r → IsSatisfiable (ssv_formula w basis r)
unfolding ssv_formula ssv_live
ssv_complete w basis r minimum =
    let least = minimum_is_in_normal_form (specification (live_words w)) (members basis) r (part_minimum w basis r minimum) in
    let is : IsFor (live_words w) basis r least.has.chain = record { is_chain = least.has.is_chain; size = least.has.size; is_over = least.has.is_over; agrees = least.has.agrees } in
    normal_form_satisfies (pairs_below (swap_closed (members basis))) w basis r
    (pairs_low basis w) least.has.chain is least.normal_form
    (normal_form_allowed (live_words w) basis r least.has.chain is least.normal_form)

-- The formula is well-formed.
pub ssv_is_formula : (w : Words) (basis r : ℕ) → IsFormula (ssv_formula w basis r)
unfolding ssv_formula ssv_live
ssv_is_formula w basis r = by_pairs_is_formula (pairs_below (swap_closed (members basis))) w basis r (pairs_low basis w)
