-- The further clauses are clauses of the strengthened formula.
use Rattle.std.proofs.Common.{ℕ, ◌+◌, ◌*◌, ◌<◌, ◌≤◌, ◌==◌, Bool, true, false, not, List, [], ◌∷◌, ◌++◌, length, Contains, arith, ⊎_elim}
use Rattle.std.specs.Prelude.{ℤ, if◌then◌else◌}
use Rattle.std.specs.List.{flat_map}
use Rattle.std.proofs.lemmas.Bool.{cases_lt, le-leb, lt-leb}
use Rattle.sat_theory.specs.Formula.{Formula, IsFormula}
use Rattle.tt_core.specs.Words.{Words}
use Rattle.clause_core.specs.declared.raw.RawLit.{RawLit}
use Rattle.clause_core.specs.declared.raw.RawLit.TheVariants.{Var}
use Rattle.clause_core.specs.Clauses.{written}
use Rattle.clause_core.specs.Holds.{contains_head, contains_tail}
use Rattle.clause_core.specs.WrittenLaws.{IsOf, AreOf, IsClauseOf, AreClauses, no_clauses, written_clauses, clauses_each, clauses_both, are_formula}
use Rattle.enc_theory.specs.declared.data.Dimensions.{Dimensions}
use Rattle.enc_theory.specs.declared.data.Slot.{Slot}
use Rattle.enc_theory.specs.Numbering.{sizes_of, x_is}
use Rattle.enc_theory.specs.Pairs.{StepSlots}
use Rattle.enc_theory.specs.Families.{chosen}
use Rattle.enc_theory.specs.Cuts.{reads, reader, readers, not_both}
use Rattle.enc_laws.specs.Layouts.{IsStepPlace, IsLaid, laid_is_place}
use Rattle.enc_laws.specs.Formulas.{HasRoom, x_is_of}
use Rattle.enc_laws.specs.CutClauses.{are_of-flat_map, clauses_if}
use Rattle.strong_theory.specs.declared.data.Edge.{Edge}
use Rattle.strong_theory.specs.Edges.{edges}
use Rattle.strong_theory.specs.Strong.{precedes, one_of, one_pair_slot, one_pair_step, one_pair, d_var, differs}
use Rattle.strong_theory.specs.Strong.{value_differs, values_differ, operand_differs, other_readers, sole_reader, or_others}
use Rattle.strong_theory.specs.Strong.{edge_step, edge_steps, differences, strengthened}
use Rattle.strong_laws.specs.EdgeLaws.{IsEdge, edges_are}
use Rattle.strong_laws.specs.OneEdge.{d_above}

-- ---- more variables

more_variables : (few many : ℕ) (lits : List ℤ) → few ≤ many → IsClauseOf few lits → IsClauseOf many lits
more_variables few many lits low is = record {
  clause = is.clause;
  within = λ k d inside. let within = is.within k d inside in omega arith;
}

clauses_of_more : (few many : ℕ) (clauses : List (List ℤ)) → few ≤ many → AreClauses few clauses → AreClauses many clauses
clauses_of_more few many clauses low are = record { each = λ lits c. more_variables few many lits low (are.each lits c) }

more_room : (few many : ℕ) (z : Dimensions) (steps : List StepSlots) → few ≤ many → HasRoom few z steps → HasRoom many z steps
more_room few many z steps low room = record {
  common = let common = room.common in omega arith;
  slots = λ s u is. let within = room.slots s u is in omega arith;
  positive = room.positive;
}

none_if : (vars : ℕ) (test : Bool) (raws : List RawLit) → AreOf vars raws → AreOf vars (if test then [] else raws)
none_if vars true raws are = tt
none_if vars false raws are = are

one_if : (vars : ℕ) (test : Bool) (raw : RawLit) → IsOf vars raw → AreOf vars (if test then raw ∷ [] else [])
one_if vars true raw is = (is, tt)
one_if vars false raw is = tt

-- the variable of a step is one of the edge's r
d_within : (z : Dimensions) (before i : ℕ) → IsStepPlace z i → d_var z before i ≤ before + z.r
unfolding d_var
d_within z before i is = let to = is.to in omega arith

module _ (vars : ℕ) (w : Words) (r : ℕ) (steps : List StepSlots) (room : HasRoom vars (sizes_of w r) steps) (laid : IsLaid (sizes_of w r) steps) where
  slot_of : (s : StepSlots) (u : Slot) (bit : Bool) → Contains steps s → Contains s.slots u → IsOf vars (Var u.var bit)
  slot_of s u bit in_steps in_slots = (room.positive s u record { step = in_steps; slot = in_slots }, room.slots s u record { step = in_steps; slot = in_slots })

  one_pair_clauses : AreClauses vars (one_pair steps)
  unfolding one_pair one_pair_step one_pair_slot one_of not_both
  one_pair_clauses =
      clauses_each vars one_pair_step steps (λ s in_steps. clauses_each vars (one_pair_slot s.slots) s.slots (λ u in_slots. clauses_each vars (one_of u) s.slots (λ u' in_slots'.
      clauses_if vars (precedes u u') (not_both u u')
      (written_clauses vars (Var u.var false ∷ Var u'.var false ∷ []) (slot_of s u false in_steps in_slots, (slot_of s u' false in_steps in_slots', tt))))))

  -- ---- an edge

  module _ (e : Edge) (before : ℕ) (is_edge : IsEdge w e) (low : before + r ≤ vars) where
    d_of : (i : ℕ) (bit : Bool) → IsStepPlace (sizes_of w r) i → IsOf vars (Var (d_var (sizes_of w r) before i) bit)
    d_of i bit is = (omega (arith, d_above (sizes_of w r) before i is), omega (arith, d_within (sizes_of w r) before i is))

    differs_of : (p : ℕ) → p < w.n + 1 + r → IsOf vars (differs (sizes_of w r) e before p)
    unfolding differs
    differs_of p below = ⊎_elim
        (λ (step : w.n < p). rw (lt-leb p w.n step) (d_of p true (record { from = omega arith; to = below })))
        (λ (inp : p ≤ w.n). rw (le-leb p w.n inp) tt)
        (cases_lt w.n p)

    value_clauses : (i : ℕ) (a b : Bool) → IsStepPlace (sizes_of w r) i → AreClauses vars (value_differs (sizes_of w r) e before i a b)
    unfolding value_differs
    value_clauses i a b is = written_clauses vars (x_is (sizes_of w r) i e.low (not a) ∷ x_is (sizes_of w r) i e.high (not b) ∷ Var (d_var (sizes_of w r) before i) (if a then not b else b) ∷ []) (
      x_is_of vars (sizes_of w r) steps i e.low (not a) room is.to is_edge.low,
      (x_is_of vars (sizes_of w r) steps i e.high (not b) room is.to is_edge.high, (d_of i (if a then not b else b) is, tt)),
    )

    values_clauses : (i : ℕ) → IsStepPlace (sizes_of w r) i → AreClauses vars (values_differ (sizes_of w r) e before i)
    unfolding values_differ
    values_clauses i is =
        clauses_both vars _ (value_differs (sizes_of w r) e before i true true)
        (clauses_both vars _ (value_differs (sizes_of w r) e before i true false)
        (clauses_both vars (value_differs (sizes_of w r) e before i false false) (value_differs (sizes_of w r) e before i false true)
        (value_clauses i false false is) (value_clauses i false true is)) (value_clauses i true false is)) (value_clauses i true true is)

    operand_clauses : (s : StepSlots) (u : Slot) → Contains steps s → Contains s.slots u → AreClauses vars (operand_differs (sizes_of w r) e before s.place u)
    unfolding operand_differs
    operand_clauses s u in_steps in_slots =
        let place : IsStepPlace (sizes_of w r) s.place = laid_is_place (sizes_of w r) steps s laid in_steps in
        let to = place.to in
        let below = laid.below s u (record { step = in_steps; slot = in_slots }) in
        let j_below = below.j_below in
        let k_below = below.k_below in
        written_clauses vars (Var (d_var (sizes_of w r) before s.place) false ∷ Var u.var false ∷ differs (sizes_of w r) e before u.j ∷ differs (sizes_of w r) e before u.k ∷ [])
        (d_of s.place false place, (slot_of s u false in_steps in_slots, (differs_of u.j (omega arith), (differs_of u.k (omega arith), tt))))

    others_of : (i : ℕ) → AreOf vars (flat_map (other_readers i e.input) steps)
    unfolding other_readers readers reader chosen
    others_of i = are_of-flat_map vars (other_readers i e.input) steps (λ s in_steps.
        none_if vars (s.place == i) (flat_map (reader e.input) s.slots) (are_of-flat_map vars (reader e.input) s.slots (λ u in_slots.
        one_if vars (reads u e.input) (Var u.var true) (slot_of s u true in_steps in_slots))))

    sole_clauses : (s : StepSlots) (u : Slot) → Contains steps s → Contains s.slots u → AreClauses vars (sole_reader e.input (or_others (sizes_of w r) steps e before s.place) u)
    unfolding sole_reader or_others
    sole_clauses s u in_steps in_slots =
        let place : IsStepPlace (sizes_of w r) s.place = laid_is_place (sizes_of w r) steps s laid in_steps in
        clauses_if vars (reads u e.input) (written (Var u.var false ∷ Var (d_var (sizes_of w r) before s.place) true ∷ flat_map (other_readers s.place e.input) steps))
        (written_clauses vars (Var u.var false ∷ Var (d_var (sizes_of w r) before s.place) true ∷ flat_map (other_readers s.place e.input) steps)
        (slot_of s u false in_steps in_slots, (d_of s.place true place, others_of s.place)))

    edge_clauses : AreClauses vars (edge_steps (sizes_of w r) steps e before)
    unfolding edge_steps edge_step
    edge_clauses = clauses_each vars (edge_step (sizes_of w r) steps e before) steps (λ s in_steps.
        clauses_both vars (values_differ (sizes_of w r) e before s.place ++ flat_map (operand_differs (sizes_of w r) e before s.place) s.slots)
        (flat_map (sole_reader e.input (or_others (sizes_of w r) steps e before s.place)) s.slots)
        (clauses_both vars (values_differ (sizes_of w r) e before s.place) (flat_map (operand_differs (sizes_of w r) e before s.place) s.slots)
        (values_clauses s.place (laid_is_place (sizes_of w r) steps s laid in_steps))
        (clauses_each vars (operand_differs (sizes_of w r) e before s.place) s.slots (λ u in_slots. operand_clauses s u in_steps in_slots)))
        (clauses_each vars (sole_reader e.input (or_others (sizes_of w r) steps e before s.place)) s.slots (λ u in_slots. sole_clauses s u in_steps in_slots)))

  -- ---- the edges

  differences_clauses : (before : ℕ) (rest : List Edge) → before + length rest * r ≤ vars → ((e : Edge) → Contains rest e → Contains (edges w) e) →
      AreClauses vars (differences (sizes_of w r) steps before rest)
  unfolding differences
  differences_clauses before [] low inside = no_clauses vars
  differences_clauses before (e ∷ rest) low inside =
      clauses_both vars (edge_steps (sizes_of w r) steps e before) (differences (sizes_of w r) steps (before + r) rest)
      (edge_clauses e before (edges_are w e (inside e (contains_head e rest))) (omega arith))
      (differences_clauses (before + r) rest (omega arith) (λ x c. inside x (contains_tail e x rest c)))

-- If the formula is well-formed, the strengthened one is.
pub strengthened_is_formula : (w : Words) (r : ℕ) (steps : List StepSlots) (f : Formula) → HasRoom f.vars (sizes_of w r) steps → IsLaid (sizes_of w r) steps →
    AreClauses f.vars f.clauses → IsFormula (strengthened w (sizes_of w r) steps f)
unfolding strengthened
strengthened_is_formula w r steps f room laid are =
    let vars : ℕ = f.vars + length (edges w) * r in
    let low : f.vars ≤ f.vars + length (edges w) * r = omega arith in
    let more : HasRoom (f.vars + length (edges w) * r) (sizes_of w r) steps = more_room f.vars (f.vars + length (edges w) * r) (sizes_of w r) steps low room in
    are_formula (strengthened w (sizes_of w r) steps f)
    (clauses_both vars f.clauses (one_pair steps ++ differences (sizes_of w r) steps f.vars (edges w))
    (clauses_of_more f.vars vars f.clauses low are)
    (clauses_both vars (one_pair steps) (differences (sizes_of w r) steps f.vars (edges w))
    (one_pair_clauses vars w r steps more laid)
    (differences_clauses vars w r steps more laid f.vars (edges w) (omega arith) (λ e c. c))))
