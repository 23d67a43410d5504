-- The clauses of MSV are clauses of a formula.
use Rattle.std.proofs.Common.{◌≡◌, ℕ, ◌+◌, ◌-◌, ◌^◌, ◌<◌, ◌≤◌, ◌==◌, Bool, true, false, not, ◌&&◌, List, [], ◌∷◌, ◌++◌, map, Contains, arith, ⊎_elim, ◌⊎◌}
use Rattle.std.specs.Prelude.{ℤ, if◌then◌else◌, nat_lt}
use Rattle.std.specs.List.{flat_map, range_with_len}
use Rattle.op_basis.specs.Basis.{members}
use Rattle.op_basis.specs.Closed.{swap_closed, const_closed, reapply_closed}
use Rattle.tt_core.specs.Words.{Words}
use Rattle.clause_core.specs.declared.raw.RawLit.TheVariants.{Var}
use Rattle.enc_theory.specs.declared.data.Side.{Side}
use Rattle.enc_theory.specs.declared.data.Side.TheVariants.{First, Second}
use Rattle.enc_theory.specs.declared.data.Dimensions.{Dimensions}
use Rattle.clause_core.specs.Clauses.{written}
use Rattle.enc_theory.specs.Numbering.{places, rows, outputs, f_var}
use Rattle.enc_theory.specs.Families.{out_exists, out_values, operator_raw, operators}
use Rattle.enc_theory.specs.Cuts.{drives, not_idle, row_0}
use Rattle.enc_theory.specs.Select.{choice_var, value_var, select_vars, below, above, chooses, choice_exists}
use Rattle.enc_theory.specs.Select.{choices_exist, operands_exist, copy_raw, copy_row, copy_place, copy_step, copies}
use Rattle.enc_theory.specs.Select.{result_raw, result_clause, result_bit, result_row, result_step, results}
use Rattle.enc_theory.specs.Select.{chosen_chain, not_these, rising_pair, rising_from, rising_step, rising, choosers}
use Rattle.enc_theory.specs.Select.{used_step, used_steps, equal_choice, negation_pair, negation_from, negation_step}
use Rattle.enc_theory.specs.Select.{trivial_step, trivial_steps, falling_pair, falling_from, falling_step, not_falling}
use Rattle.enc_theory.specs.Select.{different, no_reapplication_operand, no_reapplication_operands}
use Rattle.enc_theory.specs.Select.{no_reapplication_from, no_reapplication_after, no_reapplication_step}
use Rattle.enc_theory.specs.Select.{no_reapplication_steps, chosen_cuts}
use Rattle.clause_core.specs.Holds.{range_inside}
use Rattle.enc_laws.specs.Layouts.{IsStepPlace}
use Rattle.enc_laws.specs.Solves.{there_place, there_row}
use Rattle.clause_core.specs.WrittenLaws.{IsOf, AreOf, are_of-map, AreClauses, no_clauses, written_clauses, clauses_each, clauses_both}
use Rattle.enc_laws.specs.Formulas.{HasRoom, room_without_pairs, x_is_of, driver_clauses, outs_clauses, operators_clauses}
use Rattle.enc_laws.specs.CutClauses.{are_of-append, are_of-flat_map, clauses_if, operator_of, raw_of, drives_of, idle_clauses, row_0_clauses}
use Rattle.enc_laws.specs.SelectVars.{IsBelow, choice_positive, choice_within, value_positive, value_within, first_within}
use Rattle.enc_laws.specs.Chooses.{there_below, is_below}
use Rattle.enc_laws.specs.ChosenCuts.{different_is}

clauses_unless : (vars : ℕ) (test : Bool) (clauses : List (List ℤ)) → AreClauses vars clauses → AreClauses vars (if test then [] else clauses)
clauses_unless vars true clauses are = no_clauses vars
clauses_unless vars false clauses are = are

module _ (w : Words) (basis : ℕ) (z : Dimensions) where
  room : HasRoom (select_vars z) z []
  room = room_without_pairs (select_vars z) z (first_within z)

  choice_of : (side : Side) (i j : ℕ) (bit : Bool) → IsBelow z i j → IsOf (select_vars z) (Var (choice_var z side i j) bit)
  choice_of side i j bit is = (choice_positive z side i j, choice_within z side i j is)

  value_of : (side : Side) (i t : ℕ) (bit : Bool) → IsStepPlace z i → t < 2 ^ z.n → IsOf (select_vars z) (Var (value_var z side i t) bit)
  value_of side i t bit is row = (value_positive z side i t, value_within z side i t is row)

  these_of : (i j k : ℕ) → IsBelow z i j → IsBelow z i k → AreOf (select_vars z) (not_these z i j k)
  these_of i j k first second = (choice_of First i j false first, (choice_of Second i k false second, tt))

  bit_of : (i : ℕ) (b c bit : Bool) → IsStepPlace z i → IsOf (select_vars z) (Var (f_var z i b c) bit)
  bit_of i b c bit place = operator_of (select_vars z) basis z [] room i b c bit place

  step_above : (i l : ℕ) → IsStepPlace z i → Contains (above z i) l → IsBelow z l i
  step_above i l place c =
      let (from, to) = range_inside (i + 1) (z.n + z.r - i) l c in
      let i_from = place.from in
      let i_to = place.to in
      record { place = record { from = omega arith; to = omega arith }; from = omega arith; to = omega arith }

  -- ---- the clauses that define chains

  choices_clauses : AreClauses (select_vars z) (operands_exist z)
  unfolding operands_exist choices_exist choice_exists chooses
  choices_clauses = clauses_each (select_vars z) (choices_exist z) (places z) (λ i in_places.
      let one : (side : Side) → AreClauses (select_vars z) (choice_exists z i side) = λ side.
      written_clauses (select_vars z) (map (chooses z side i) (below i))
      (are_of-map (select_vars z) (chooses z side i) (below i) (λ j in_below.
      choice_of side i j true (is_below z i j (there_place z i in_places) in_below))) in
      clauses_both (select_vars z) (choice_exists z i First) (choice_exists z i Second) (one First) (one Second))

  copies_clauses : (side : Side) → AreClauses (select_vars z) (copies z side)
  unfolding copies copy_step copy_place copy_row copy_raw
  copies_clauses side = clauses_each (select_vars z) (copy_step z side) (places z) (λ i in_places.
      clauses_each (select_vars z) (copy_place z side i) (below i) (λ j in_below.
      clauses_each (select_vars z) (copy_row z side i j) (rows z) (λ t in_rows.
      let at = is_below z i j (there_place z i in_places) in_below in
      let row = there_row z t in_rows in
      let to = at.place.to in
      let j_to = at.to in
      let one : (e : Bool) → AreClauses (select_vars z) (written (copy_raw z side i j t e)) = λ e.
      written_clauses (select_vars z) (copy_raw z side i j t e) (
        choice_of side i j false at,
        (value_of side i t e at.place row, (x_is_of (select_vars z) z [] j t (not e) room (omega arith) row, tt)),
      ) in
      clauses_both (select_vars z) (written (copy_raw z side i j t false)) (written (copy_raw z side i j t true)) (one false) (one true))))

  results_clauses : AreClauses (select_vars z) (results z)
  unfolding results result_step result_row result_bit result_clause result_raw
  results_clauses = clauses_each (select_vars z) (result_step z) (places z) (λ i in_places. clauses_each (select_vars z) (result_row z i) (rows z) (λ t in_rows.
      let place = there_place z i in_places in
      let row = there_row z t in_rows in
      let one : (a b c : Bool) → AreClauses (select_vars z) (result_clause z i t a b c) = λ a b c.
      written_clauses (select_vars z) (result_raw z i t a b c) (
        x_is_of (select_vars z) z [] i t (not a) room place.to row,
        (value_of First i t (not b) place row, (value_of Second i t (not c) place row, (bit_of i b c a place, tt))),
      ) in
      let four : (a : Bool) → AreClauses (select_vars z) (result_bit z i t a) = λ a.
      clauses_both (select_vars z) _ (result_clause z i t a true true)
      (clauses_both (select_vars z) _ (result_clause z i t a true false)
      (clauses_both (select_vars z) (result_clause z i t a false false) (result_clause z i t a false true)
      (one a false false) (one a false true)) (one a true false)) (one a true true) in
      clauses_both (select_vars z) (result_bit z i t false) (result_bit z i t true) (four false) (four true)))

  pub chain_clauses : AreClauses (select_vars z) (chosen_chain w basis z)
  unfolding chosen_chain
  chain_clauses =
      clauses_both (select_vars z) _ (operators basis z)
      (clauses_both (select_vars z) _ (results z)
      (clauses_both (select_vars z) _ (copies z Second)
      (clauses_both (select_vars z) _ (copies z First)
      (clauses_both (select_vars z) _ (operands_exist z)
      (clauses_both (select_vars z) (out_exists z) (out_values w z) (driver_clauses (select_vars z) z [] room) (outs_clauses (select_vars z) w z [] room))
      choices_clauses)
      (copies_clauses First))
      (copies_clauses Second))
      results_clauses)
      (operators_clauses (select_vars z) basis z [] room)

  -- ---- constraints

  rising_clauses : AreClauses (select_vars z) (rising basis z)
  unfolding rising rising_step rising_from rising_pair
  rising_clauses = clauses_if (select_vars z) (swap_closed (members basis)) (flat_map (rising_step z) (places z))
      (clauses_each (select_vars z) (rising_step z) (places z) (λ i in_places.
      clauses_each (select_vars z) (rising_from z i) (below i) (λ j in_below.
      clauses_each (select_vars z) (rising_pair z i j) (below j) (λ k in_lower.
      let first = is_below z i j (there_place z i in_places) in_below in
      let (from, to) = there_below j k in_lower in
      let j_to = first.to in
      written_clauses (select_vars z) (not_these z i j k) (these_of i j k first (record { place = first.place; from = from; to = omega arith }))))))

  used_clauses : AreClauses (select_vars z) (used_steps z)
  unfolding used_steps used_step choosers chooses
  used_clauses = clauses_each (select_vars z) (used_step z) (places z) (λ i in_places.
      let place = there_place z i in_places in
      written_clauses (select_vars z) (map (drives z i) (outputs z) ++ flat_map (choosers z i) (above z i))
      (are_of-append (select_vars z) (map (drives z i) (outputs z)) (flat_map (choosers z i) (above z i)) (drives_of (select_vars z) basis z [] room i place)
      (are_of-flat_map (select_vars z) (choosers z i) (above z i) (λ l in_above.
      let at = step_above i l place in_above in (choice_of First l i true at, (choice_of Second l i true at, tt))))))

  equal_clauses : (constants : Bool) (i j : ℕ) → IsBelow z i j → AreClauses (select_vars z) (equal_choice constants z i j)
  unfolding equal_choice
  equal_clauses true i j at =
      clauses_both (select_vars z) (written (not_these z i j j ++ Var (f_var z i false false) true ∷ [])) (written (not_these z i j j ++ Var (f_var z i true true) false ∷ []))
      (written_clauses (select_vars z) (not_these z i j j ++ Var (f_var z i false false) true ∷ [])
      (choice_of First i j false at, (choice_of Second i j false at, (bit_of i false false true at.place, tt))))
      (written_clauses (select_vars z) (not_these z i j j ++ Var (f_var z i true true) false ∷ [])
      (choice_of First i j false at, (choice_of Second i j false at, (bit_of i true true false at.place, tt))))
  equal_clauses false i j at =
      written_clauses (select_vars z) (not_these z i j j ++ Var (f_var z i false false) true ∷ Var (f_var z i true true) false ∷ [])
      (choice_of First i j false at, (choice_of Second i j false at, (bit_of i false false true at.place, (bit_of i true true false at.place, tt))))

  negation_clauses : (i op : ℕ) → IsStepPlace z i → AreClauses (select_vars z) (negation_step basis z i op)
  unfolding negation_step negation_from negation_pair
  negation_clauses i op place = clauses_if (select_vars z) (members basis op) (flat_map (negation_from z i op) (below i))
      (clauses_each (select_vars z) (negation_from z i op) (below i) (λ j in_below. clauses_each (select_vars z) (negation_pair z i op j) (below i) (λ k in_below'.
      clauses_unless (select_vars z) (j == k) (written (operator_raw z i op ++ not_these z i j k)) (written_clauses (select_vars z) (operator_raw z i op ++ not_these z i j k)
      (are_of-append (select_vars z) (operator_raw z i op) (not_these z i j k)
      (raw_of (select_vars z) basis z [] room i op place)
      (these_of i j k (is_below z i j place in_below) (is_below z i k place in_below')))))))

  trivial_clauses : AreClauses (select_vars z) (trivial_steps basis z)
  unfolding trivial_steps trivial_step
  trivial_clauses = clauses_each (select_vars z) (trivial_step (const_closed (members basis)) basis z) (places z) (λ i in_places.
      let place = there_place z i in_places in
      let constants : Bool = const_closed (members basis) in
      clauses_both (select_vars z) (not_idle constants basis z i ++ flat_map (equal_choice constants z i) (below i)) (flat_map (negation_step basis z i) (10 ∷ 12 ∷ []))
      (clauses_both (select_vars z) (not_idle constants basis z i) (flat_map (equal_choice constants z i) (below i))
      (idle_clauses (select_vars z) basis z [] room constants i place)
      (clauses_each (select_vars z) (equal_choice constants z i) (below i) (λ j in_below. equal_clauses constants i j (is_below z i j place in_below))))
      (clauses_each (select_vars z) (negation_step basis z i) (10 ∷ 12 ∷ []) (λ op c. negation_clauses i op place)))

  falling_clauses : AreClauses (select_vars z) (not_falling basis z)
  unfolding not_falling falling_step falling_from falling_pair
  falling_clauses = clauses_if (select_vars z) (swap_closed (members basis)) (flat_map (falling_step z) (range_with_len (z.n + 1) (z.r - 1)))
      (clauses_each (select_vars z) (falling_step z) (range_with_len (z.n + 1) (z.r - 1)) (λ i in_places.
      clauses_each (select_vars z) (falling_from z i) (below i) (λ k in_below.
      clauses_each (select_vars z) (falling_pair z i k) (below k) (λ l in_lower.
      let (from, to) = range_inside (z.n + 1) (z.r - 1) i in_places in
      let (k_from, k_to) = there_below i k in_below in
      let (l_from, l_to) = there_below k l in_lower in
      written_clauses (select_vars z) (Var (choice_var z Second i k) false ∷ Var (choice_var z Second (i + 1) l) false ∷ []) (
        choice_of Second i k false (record { place = record { from = from; to = omega arith }; from = k_from; to = k_to }),
        (choice_of Second (i + 1) l false (record { place = record { from = omega arith; to = omega arith }; from = l_from; to = omega arith }), tt),
      )))))

  no_reapplication_one : (ordered : Bool) (i l j k o : ℕ) → IsBelow z l i → IsBelow z i j → IsBelow z i k → (o ≡ j) ⊎
      (o ≡ k) → AreClauses (select_vars z) (no_reapplication_operand ordered z i l j k o)
  unfolding no_reapplication_operand
  no_reapplication_one ordered i l j k o later first second one =
      let j_from = first.from in
      let j_to = first.to in
      let k_from = second.from in
      let k_to = second.to in
      let i_to = later.to in
      let o_from : 1 ≤ o = ⊎_elim (λ (e : o ≡ j). omega arith) (λ (e : o ≡ k). omega arith) one in
      let o_to : o < i = ⊎_elim (λ (e : o ≡ j). omega arith) (λ (e : o ≡ k). omega arith) one in
      let o_below : IsBelow z l o = record { place = later.place; from = o_from; to = omega arith } in
      let these = these_of i j k first second in
      clauses_both (select_vars z) (written (not_these z i j k ++ not_these z l o i)) (if ordered then [] else written (not_these z i j k ++ not_these z l i o))
      (written_clauses (select_vars z) (not_these z i j k ++ not_these z l o i) (are_of-append (select_vars z) (not_these z i j k) (not_these z l o i) these (these_of l o i o_below later)))
      (clauses_unless (select_vars z) ordered (written (not_these z i j k ++ not_these z l i o))
      (written_clauses (select_vars z) (not_these z i j k ++ not_these z l i o) (are_of-append (select_vars z) (not_these z i j k) (not_these z l i o) these (these_of l i o later o_below))))

  no_reapplication_clauses : AreClauses (select_vars z) (no_reapplication_steps basis z)
  unfolding no_reapplication_steps no_reapplication_step no_reapplication_after no_reapplication_from no_reapplication_operands
  no_reapplication_clauses =
      let ordered : Bool = swap_closed (members basis) in
      clauses_if (select_vars z) (reapply_closed (members basis)) (flat_map (no_reapplication_step ordered z) (places z))
      (clauses_each (select_vars z) (no_reapplication_step ordered z) (places z) (λ i in_places.
      clauses_each (select_vars z) (no_reapplication_after ordered z i) (above z i) (λ l in_above.
      clauses_each (select_vars z) (no_reapplication_from ordered z i l) (below i) (λ j in_below.
      clauses_each (select_vars z) (no_reapplication_operands ordered z i l j) (below i) (λ k in_below'.
      let place = there_place z i in_places in
      clauses_unless (select_vars z) (ordered &&
      nat_lt k j) (flat_map (no_reapplication_operand ordered z i l j k) (different j k))
      (clauses_each (select_vars z) (no_reapplication_operand ordered z i l j k) (different j k) (λ o in_operands.
      no_reapplication_one ordered i l j k o (step_above i l place in_above) (is_below z i j place in_below) (is_below z i k place in_below') (different_is j k o in_operands))))))))

  pub chosen_cuts_clauses : AreClauses (select_vars z) (chosen_cuts basis z)
  unfolding chosen_cuts
  chosen_cuts_clauses =
      clauses_both (select_vars z) _ (row_0 basis z)
      (clauses_both (select_vars z) _ (no_reapplication_steps basis z)
      (clauses_both (select_vars z) _ (not_falling basis z)
      (clauses_both (select_vars z) _ (trivial_steps basis z)
      (clauses_both (select_vars z) (rising basis z) (used_steps z) rising_clauses used_clauses)
      trivial_clauses)
      falling_clauses)
      no_reapplication_clauses)
      (row_0_clauses (select_vars z) basis z [] room)
