-- The laws of MSV.
use Rattle.std.proofs.Common.{ℕ, map}
use Rattle.chain_theory.specs.Chain.{Chain}
use Rattle.chain_theory.specs.Agreement.{HasChain, IsMinimum}
use Rattle.op_basis.specs.Basis.{members}
use Rattle.chain_laws.specs.NormalForm.{IsNormalForm}
use Rattle.chain_laws.specs.Least.{minimum_is_in_normal_form}
use Rattle.sat_theory.specs.Formula.{IsFormula, Assignment, Satisfies}
use Rattle.tt_core.specs.Words.{Words, specification}
use Rattle.tt_core.specs.Live.{live_words}
use Rattle.enc_theory.specs.declared.data.Dimensions.{Dimensions}
use Rattle.clause_core.specs.Clauses.{IsSatisfiable}
use Rattle.enc_theory.specs.Numbering.{sizes_of, places}
use Rattle.enc_theory.specs.Select.{select_vars, chosen_chain, chosen_cuts, select_live, select_formula, chosen_step, select_decoded}
use Rattle.clause_core.specs.Holds.{holds_both, both_hold, holds_satisfied, satisfied_holds}
use Rattle.clause_core.specs.WrittenLaws.{are_formula, clauses_both}
use Rattle.enc_laws.specs.Decoded.{IsFor, for_is_there, spelled_is_for}
use Rattle.enc_laws.specs.Complete.{chain_bits}
use Rattle.enc_laws.specs.Laws.{live_outs, part_is_all_live}
use Rattle.enc_laws.specs.ByPairs.{part_minimum}
use Rattle.enc_laws.specs.Chooses.{Chooses, chooses_from, chooses_to}
use Rattle.enc_laws.specs.ChosenSteps.{chosen_spells, chosen_is_over}
use Rattle.enc_laws.specs.ChosenBits.{select_rest, IsOfChoices, select_bits, chain_chooses}
use Rattle.enc_laws.specs.ChosenCuts.{chosen_cuts_hold}
use Rattle.enc_laws.specs.ChosenClauses.{chain_clauses, chosen_cuts_clauses}

-- A satisfying assignment spells a chain of r steps over the basis that implements the tables.
pub select_decodes : (w : Words) (basis r : ℕ) (v : Assignment) → Satisfies v (select_formula w basis r) → IsFor w basis r (select_decoded w r v)
unfolding select_formula select_live select_decoded
select_decodes w basis r v satisfies =
    let z : Dimensions = sizes_of (live_words w) r in
    let (chain, cuts) = holds_both v (chosen_chain (live_words w) basis z) (chosen_cuts basis z) (holds_satisfied v (select_live (live_words w) basis r) satisfies) in
    let chooses : Chooses (live_words w) basis z v = chooses_from (live_words w) basis z v chain in
    spelled_is_for w basis r (map (chosen_step z v) (places z)) v (chosen_spells (live_words w) basis z v chooses) (λ outs. chosen_is_over (live_words w) basis z v chooses w.n outs)

-- If the formula is satisfiable, a chain of r steps over the basis implements the tables.
pub select_sound : (w : Words) (basis r : ℕ) → IsSatisfiable (select_formula w basis r) → HasChain (specification w) (members basis) r
select_sound w basis r (v, satisfies) = for_is_there w basis r (select_decoded w r v) (select_decodes w basis r v satisfies)

-- The assignment of a chain in normal form satisfies the formula.
normal_form_selects : (w : Words) (basis r : ℕ) (c : Chain) → IsFor (live_words w) basis r c →
    IsNormalForm (members basis) (specification (live_words w)) c → IsSatisfiable (select_live (live_words w) basis r)
unfolding select_live
normal_form_selects w basis r c is normal_form =
    let z : Dimensions = sizes_of (live_words w) r in
    let v : Assignment = chain_bits z c (select_rest z c) in
    let choices : IsOfChoices (live_words w) r c v = select_bits (live_words w) basis r c is in (
      chain_bits z c (select_rest z c),
      satisfied_holds v (select_live (live_words w) basis r)
          (both_hold v (chosen_chain (live_words w) basis z) (chosen_cuts basis z)
          (chooses_to (live_words w) basis z v (chain_chooses (live_words w) basis r c v is (live_outs (live_words w) basis r c (part_is_all_live w) is) choices))
          (chosen_cuts_hold (live_words w) basis r c v choices is normal_form)),
    )

-- If a chain of r steps over the basis implements the tables and none of fewer steps does, the formula is
-- satisfiable: the constraints keep a minimum chain.
pub select_complete : (w : Words) (basis r : ℕ) → IsMinimum (specification w) (members basis) r → IsSatisfiable (select_formula w basis r)
unfolding select_formula
select_complete w basis r minimum =
    let least = minimum_is_in_normal_form (specification (live_words w)) (members basis) r (part_minimum w basis r minimum) in
    normal_form_selects w basis r least.has.chain (record { is_chain = least.has.is_chain; size = least.has.size; is_over = least.has.is_over; agrees = least.has.agrees }) least.normal_form

-- The formula is well-formed.
pub select_is_formula : (w : Words) (basis r : ℕ) → IsFormula (select_formula w basis r)
unfolding select_formula select_live
select_is_formula w basis r =
    let z : Dimensions = sizes_of (live_words w) r in
    are_formula (select_live (live_words w) basis r)
    (clauses_both (select_vars z) (chosen_chain (live_words w) basis z) (chosen_cuts basis z)
    (chain_clauses (live_words w) basis z) (chosen_cuts_clauses (live_words w) basis z))
