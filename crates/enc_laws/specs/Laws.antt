-- The laws of the plain encoding, and what it shares with every encoding by pairs.
use Rattle.std.proofs.Common.{◌≡◌, ℕ, ◌≤◌, true, false, List, length, Contains}
use Rattle.chain_theory.specs.Chain.{Chain}
use Rattle.chain_theory.specs.Agreement.{HasChain}
use Rattle.op_basis.specs.Basis.{members}
use Rattle.sat_theory.specs.Formula.{IsFormula, Assignment, Satisfies}
use Rattle.tt_core.specs.Words.{Words, specification}
use Rattle.tt_core.specs.Live.{is_live, live_words}
use Rattle.enc_theory.specs.declared.data.Dimensions.{Dimensions}
use Rattle.enc_theory.specs.declared.data.Pair.{Pair}
use Rattle.clause_core.specs.Clauses.{IsSatisfiable}
use Rattle.enc_theory.specs.Numbering.{sizes_of}
use Rattle.enc_theory.specs.Pairs.{pair, pairs_below, layout, vars_of}
use Rattle.enc_theory.specs.Families.{common}
use Rattle.enc_theory.specs.Plain.{plain_layout, plain_live, plain_formula, plain_decoded}
use Rattle.clause_core.specs.Holds.{holds, holds_satisfied, satisfied_holds}
use Rattle.clause_core.specs.WrittenLaws.{are_formula}
use Rattle.enc_laws.specs.Formulas.{common_clauses, layout_has_room}
use Rattle.enc_laws.specs.Layouts.{IsStepPlace, AreBelow, laid_is_place, layout_is_laid, layout_once, layout_has, pairs_are_below, pair_is_there}
use Rattle.enc_laws.specs.Live.{part_is_live, live_out_is_step, picked, picked_is_chain, picked_agrees}
use Rattle.enc_laws.specs.Solves.{solves_to}
use Rattle.enc_laws.specs.Decoded.{IsFor, for_is_there, decoded_is_for}
use Rattle.enc_laws.specs.Complete.{step_at, assignment_of, HasPairs, HasStepOuts, step_below, chain_solves}

-- ---- encodings by pairs

-- all outputs are live
pub record AreLive (w : Words) : Type 0 where
  pub each : (h : ℕ) → 1 ≤ h → h ≤ length w.on → is_live (specification w) h ≡ true

-- each step's pair is among its given ones
pub record IsAllowed (pairs : ℕ → List Pair) (w : Words) (r : ℕ) (c : Chain) : Type 0 where
  pub each : (i : ℕ) → IsStepPlace (sizes_of w r) i → Contains (pairs i) (pair (step_at c i).j (step_at c i).k)

pub live_outs : (w : Words) (basis r : ℕ) (c : Chain) → AreLive w → IsFor w basis r c → HasStepOuts c (length w.on)
live_outs w basis r c live is = record { each = λ h some low. live_out_is_step (specification w) c h is.is_chain is.agrees some low (live.each h some low) }

pub allowed_pairs : (pairs : ℕ → List Pair) (w : Words) (r : ℕ) (c : Chain) → AreBelow w.n pairs → IsAllowed pairs w r c → HasPairs (layout pairs (sizes_of w r)) c
allowed_pairs pairs w r c below allowed = record {
  once = λ s s' u u' is is' e. layout_once pairs (sizes_of w r) s s' u u' is is' e;
  has = λ s c_s. layout_has pairs (sizes_of w r) s (step_at c s.place).j (step_at c s.place).k c_s
      (allowed.each s.place (laid_is_place (sizes_of w r) (layout pairs (sizes_of w r)) s (layout_is_laid pairs (sizes_of w r) below) c_s));
}

-- The assignment of a chain with allowed pairs satisfies the clauses that define chains.
pub chain_satisfies : (pairs : ℕ → List Pair) (w : Words) (basis r : ℕ) (c : Chain) → AreBelow w.n pairs → AreLive w → IsFor w basis r c → IsAllowed pairs w r c
    → holds (assignment_of (sizes_of w r) (layout pairs (sizes_of w r)) c) (common w basis (sizes_of w r) (layout pairs (sizes_of w r))) ≡ true
chain_satisfies pairs w basis r c below live is allowed =
    let laid = layout_is_laid pairs (sizes_of w r) below in
    solves_to w basis (sizes_of w r) (layout pairs (sizes_of w r)) (assignment_of (sizes_of w r) (layout pairs (sizes_of w r)) c) laid
    (chain_solves w basis r (layout pairs (sizes_of w r)) c is (live_outs w basis r c live is) laid (allowed_pairs pairs w r c below allowed))

-- the live outputs are all live, and a chain for the tables gives one for the live outputs
pub part_is_all_live : (w : Words) → AreLive (live_words w)
part_is_all_live w = record { each = part_is_live w }

pub picked_is_for : (w : Words) (basis r : ℕ) (c : Chain) → IsFor w basis r c → IsFor (live_words w) basis r (picked w c)
picked_is_for w basis r c is = record {
  is_chain = picked_is_chain w c is.is_chain is.agrees.outputs;
  size = is.size;
  is_over = is.is_over;
  agrees = picked_agrees w c is.agrees;
}

-- any pair of lower places is allowed
all_allowed : (w : Words) (basis r : ℕ) (c : Chain) → IsFor w basis r c → IsAllowed (pairs_below false) w r c
all_allowed w basis r c is = record {
  each = λ i place.
      let below = step_below w basis r c is i place in
      pair_is_there false i (step_at c i).j (step_at c i).k (record { j_from = below.j_from; j_below = below.j_below; k_from = below.k_from; k_below = below.k_below }) (λ e. absurd cc);
}

-- ---- plain

-- A satisfying assignment spells a chain of r steps over the basis that implements the tables.
pub plain_decodes : (w : Words) (basis r : ℕ) (v : Assignment) → Satisfies v (plain_formula w basis r) → IsFor w basis r (plain_decoded w r v)
unfolding plain_formula plain_live plain_decoded
plain_decodes w basis r v satisfies =
    let z : Dimensions = sizes_of (live_words w) r in
    decoded_is_for w basis r (plain_layout z) v (layout_is_laid (pairs_below false) z (pairs_are_below false w.n)) (holds_satisfied v (plain_formula w basis r) satisfies)

-- If the formula is satisfiable, a chain of r steps over the basis implements the tables,
pub plain_sound : (w : Words) (basis r : ℕ) → IsSatisfiable (plain_formula w basis r) → HasChain (specification w) (members basis) r
plain_sound w basis r (v, satisfies) = for_is_there w basis r (plain_decoded w r v) (plain_decodes w basis r v satisfies)

-- and if a chain does, the formula is satisfiable.
pub plain_complete : (w : Words) (basis r : ℕ) → HasChain (specification w) (members basis) r → IsSatisfiable (plain_formula w basis r)
unfolding plain_formula plain_live
plain_complete w basis r has =
    let z : Dimensions = sizes_of (live_words w) r in
    let is : IsFor w basis r has.chain = record { is_chain = has.is_chain; size = has.size; is_over = has.is_over; agrees = has.agrees } in
    let of_live : IsFor (live_words w) basis r (picked w has.chain) = picked_is_for w basis r has.chain is in
    let v : Assignment = assignment_of z (plain_layout z) (picked w has.chain) in (
      assignment_of z (plain_layout z) (picked w has.chain),
      satisfied_holds v (plain_formula w basis r)
          (chain_satisfies (pairs_below false) (live_words w) basis r (picked w has.chain) (pairs_are_below false w.n)
          (part_is_all_live w) of_live (all_allowed (live_words w) basis r (picked w has.chain) of_live)),
    )

-- The formula is well-formed.
pub plain_is_formula : (w : Words) (basis r : ℕ) → IsFormula (plain_formula w basis r)
unfolding plain_formula plain_live
plain_is_formula w basis r =
    let z : Dimensions = sizes_of (live_words w) r in
    are_formula (plain_formula w basis r) (common_clauses (vars_of z (plain_layout z)) (live_words w) basis z (plain_layout z)
    (layout_has_room (pairs_below false) z (pairs_are_below false w.n)) (layout_is_laid (pairs_below false) z (pairs_are_below false w.n)))
