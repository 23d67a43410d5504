-- The clauses are clauses of a formula: their variables differ and are within the number of variables.
use Rattle.std.proofs.Common.{◌≡◌, ◌⊎◌, ℕ, zero, suc, ◌+◌, ◌^◌, ◌<◌, ◌≤◌, Bool, true, false, not, List, [], ◌∷◌, length, map, Contains, refl, sym, ap, subst, arith, ⊎_elim}
use Rattle.std.specs.Prelude.{if◌then◌else◌}
use Rattle.std.specs.List.{range_with_len}
use Rattle.std.proofs.lemmas.Bool.{cases_lt, le-leb, lt-leb}
use Rattle.chain_theory.specs.declared.data.Cell.{Cell}
use Rattle.chain_theory.specs.declared.data.Cell.TheVariants.{Zero, One, Free}
use Rattle.op_basis.specs.Basis.{members}
use Rattle.tt_core.specs.Words.{Words, cell_of}
use Rattle.clause_core.specs.declared.raw.RawLit.TheVariants.{Var}
use Rattle.enc_theory.specs.declared.data.Dimensions.{Dimensions}
use Rattle.enc_theory.specs.declared.data.Pair.{Pair}
use Rattle.enc_theory.specs.declared.data.Slot.{Slot}
use Rattle.clause_core.specs.Clauses.{written}
use Rattle.enc_theory.specs.Numbering.{places, rows, outputs, g_var, f_var, s_first, x_is}
use Rattle.enc_theory.specs.Pairs.{StepSlots, numbered, laid, layout, slot_count, vars_of}
use Rattle.enc_theory.specs.Families.{driver, out_exists_at, out_exists, out_value_is, out_value_at, out_value}
use Rattle.enc_theory.specs.Families.{out_values_of, out_values_at, out_values, chosen, pair_exists_at, pair_exists}
use Rattle.enc_theory.specs.Families.{value_raw, value_clause, value_bit, value_row, value_slot, value_step, values}
use Rattle.enc_theory.specs.Families.{operator_raw, operator_clause, operators_at, operators, common}
use Rattle.clause_core.specs.WrittenLaws.{IsOf, are_of-map, AreClauses, no_clauses, written_clauses, clauses_each, clauses_both}
use Rattle.clause_core.specs.Holds.{contains_cases, range_inside}
use Rattle.enc_laws.specs.Bounds.{x_positive, g_positive, f_positive, s_positive, slot_positive, x_below, g_below, f_below}
use Rattle.enc_laws.specs.Layouts.{IsStepPlace, IsSlotOf, IsLaid, AreBelow, numbered_slot, laid_is_place, layout_is_laid}

-- ---- the families that define chains

-- room for all variables except selection variables, and for these too
pub record HasRoom (vars : ℕ) (z : Dimensions) (steps : List StepSlots) : Type 0 where
  pub common : s_first z ≤ vars + 1
  pub slots : (s : StepSlots) (u : Slot) → IsSlotOf steps s u → u.var ≤ vars
  pub positive : (s : StepSlots) (u : Slot) → IsSlotOf steps s u → 1 ≤ u.var

-- if there are no pairs, room for all other variables is enough
pub room_without_pairs : (vars : ℕ) (z : Dimensions) → s_first z ≤ vars + 1 → HasRoom vars z []
room_without_pairs vars z common = record {
  common = common;
  slots = λ s u is. absurd (omega (arith, is.step.1));
  positive = λ s u is. absurd (omega (arith, is.step.1));
}

pub x_is_of : (vars : ℕ) (z : Dimensions) (steps : List StepSlots) (j t : ℕ) (bit : Bool) → HasRoom vars z steps → j < z.n + 1 + z.r → t < 2 ^ z.n → IsOf vars (x_is z j t bit)
unfolding x_is
x_is_of vars z steps j t bit room low row = ⊎_elim
    (λ (step : z.n < j). rw (lt-leb j z.n step) (x_positive z j t, (let common = room.common in omega (arith, x_below z j t (record { from = omega arith; to = low }) row))))
    (λ (inp : j ≤ z.n). rw (le-leb j z.n inp) tt)
    (cases_lt z.n j)

pub driver_clauses : (vars : ℕ) (z : Dimensions) (steps : List StepSlots) → HasRoom vars z steps → AreClauses vars (out_exists z)
unfolding out_exists out_exists_at driver
driver_clauses vars z steps room = clauses_each vars (out_exists_at z) (outputs z) (λ h in_outputs.
    let (some, low) = range_inside 1 z.m h in_outputs in
    written_clauses vars (map (driver z h) (places z)) (are_of-map vars (driver z h) (places z) (λ i in_places.
    let (from, to) = range_inside (z.n + 1) z.r i in_places in
    let is : IsStepPlace z i = record { from = from; to = to } in
    let common = room.common in
    (g_positive z h i is, omega (arith, g_below z h i some (omega arith) is)))))

out_clauses : (vars : ℕ) (z : Dimensions) (steps : List StepSlots) (h i t : ℕ) (cell : Cell) → HasRoom vars z steps →
    1 ≤ h → h ≤ z.m → IsStepPlace z i → t < 2 ^ z.n → AreClauses vars (out_value_at z h i t cell)
unfolding out_value_at out_value_is
out_clauses vars z steps h i t Zero room some low is row =
    written_clauses vars (Var (g_var z h i) false ∷ x_is z i t false ∷ []) (
      (g_positive z h i is, (let common = room.common in omega (arith, g_below z h i some low is))),
      (x_is_of vars z steps i t false room is.to row, tt),
    )
out_clauses vars z steps h i t One room some low is row =
    written_clauses vars (Var (g_var z h i) false ∷ x_is z i t true ∷ []) (
      (g_positive z h i is, (let common = room.common in omega (arith, g_below z h i some low is))),
      (x_is_of vars z steps i t true room is.to row, tt),
    )
out_clauses vars z steps h i t Free room some low is row = no_clauses vars

pub outs_clauses : (vars : ℕ) (w : Words) (z : Dimensions) (steps : List StepSlots) → HasRoom vars z steps → AreClauses vars (out_values w z)
unfolding out_values out_values_at out_values_of out_value
outs_clauses vars w z steps room =
    clauses_each vars (out_values_at w z) (outputs z) (λ h in_outputs. clauses_each vars (out_values_of w z h) (places z) (λ i in_places. clauses_each vars (out_value w z h i) (rows z) (λ t in_rows.
    let (some, low) = range_inside 1 z.m h in_outputs in
    let (from, to) = range_inside (z.n + 1) z.r i in_places in
    let (start, end) = range_inside 0 (2 ^ z.n) t in_rows in
    out_clauses vars z steps h i t (cell_of w h t) room some (omega arith) (record { from = from; to = to }) (omega arith))))

pair_clauses : (vars : ℕ) (z : Dimensions) (steps : List StepSlots) → HasRoom vars z steps → AreClauses vars (pair_exists steps)
unfolding pair_exists pair_exists_at chosen
pair_clauses vars z steps room = clauses_each vars pair_exists_at steps (λ s in_steps. written_clauses vars (map chosen s.slots) (are_of-map vars chosen s.slots (λ u in_slots.
    let is : IsSlotOf steps s u = record { step = in_steps; slot = in_slots } in
    (room.positive s u is, room.slots s u is))))

one_value_clauses : (vars : ℕ) (z : Dimensions) (steps : List StepSlots) (s : StepSlots) (u : Slot) (t : ℕ) (a b c : Bool) →
    HasRoom vars z steps → IsLaid z steps → IsStepPlace z s.place → IsSlotOf steps s u → t < 2 ^ z.n →
    AreClauses vars (value_clause z s.place u t a b c)
unfolding value_clause value_raw
one_value_clauses vars z steps s u t a b c room laid place is row =
    let below = laid.below s u is in
    let j = below.j_below in
    let k = below.k_below in
    let to = place.to in
    let common = room.common in
    written_clauses vars (value_raw z s.place u t a b c) (
      (room.positive s u is, room.slots s u is),
      (
        x_is_of vars z steps s.place t (not a) room to row,
        (
          x_is_of vars z steps u.j t (not b) room (omega arith) row,
          (
            x_is_of vars z steps u.k t (not c) room (omega arith) row,
            ((f_positive z s.place b c, omega (arith, f_below z s.place b c place)), tt),
          ),
        ),
      ),
    )

values_clauses : (vars : ℕ) (z : Dimensions) (steps : List StepSlots) → HasRoom vars z steps → IsLaid z steps → AreClauses vars (values z steps)
unfolding values value_step value_slot value_row value_bit
values_clauses vars z steps room laid =
    clauses_each vars (value_step z) steps (λ s in_steps. clauses_each vars (value_slot z s.place) s.slots (λ u in_slots. clauses_each vars (value_row z s.place u) (rows z) (λ t in_rows.
    let (start, end) = range_inside 0 (2 ^ z.n) t in_rows in
    let one : (a b c : Bool) → AreClauses vars (value_clause z s.place u t a b c) =
    λ a b c. one_value_clauses vars z steps s u t a b c room laid (laid_is_place z steps s laid in_steps)
    (record { step = in_steps; slot = in_slots }) (omega arith) in
    let four : (a : Bool) → AreClauses vars (value_bit z s.place u t a) =
    λ a. clauses_both vars _ (value_clause z s.place u t a true true)
    (clauses_both vars _ (value_clause z s.place u t a true false)
    (clauses_both vars (value_clause z s.place u t a false false) (value_clause z s.place u t a false true)
    (one a false false) (one a false true)) (one a true false)) (one a true true) in
    clauses_both vars (value_bit z s.place u t false) (value_bit z s.place u t true) (four false) (four true))))

operator_clauses : (vars : ℕ) (basis : ℕ) (z : Dimensions) (steps : List StepSlots) (i op : ℕ) → HasRoom vars z steps → IsStepPlace z i → AreClauses vars (operator_clause basis z i op)
unfolding operator_clause operator_raw
operator_clauses vars basis z steps i op room is =
    let common = room.common in
    let of : (b c : Bool) → (1 ≤ f_var z i b c) × (f_var z i b c ≤ vars) = λ b c. (f_positive z i b c, omega (arith, f_below z i b c is)) in
    elim (members basis op) as (λ b. AreClauses vars (if b then [] else written (operator_raw z i op))) [
      | true ↦ no_clauses vars
      | false ↦ written_clauses vars (operator_raw z i op) (of false false, (of false true, (of true false, (of true true, tt))))
    ]

pub operators_clauses : (vars basis : ℕ) (z : Dimensions) (steps : List StepSlots) → HasRoom vars z steps → AreClauses vars (operators basis z)
unfolding operators operators_at
operators_clauses vars basis z steps room = clauses_each vars (operators_at basis z) (places z) (λ i in_places. clauses_each vars (operator_clause basis z i) (range_with_len 0 16) (λ op in_range.
    let (from, to) = range_inside (z.n + 1) z.r i in_places in
    operator_clauses vars basis z steps i op room (record { from = from; to = to })))

pub common_clauses : (vars : ℕ) (w : Words) (basis : ℕ) (z : Dimensions) (steps : List StepSlots) → HasRoom vars z steps → IsLaid z steps → AreClauses vars (common w basis z steps)
unfolding common
common_clauses vars w basis z steps room laid =
    clauses_both vars _ (operators basis z)
    (clauses_both vars _ (values z steps)
    (clauses_both vars _ (pair_exists steps)
    (clauses_both vars (out_exists z) (out_values w z) (driver_clauses vars z steps room) (outs_clauses vars w z steps room))
    (pair_clauses vars z steps room))
    (values_clauses vars z steps room laid))
    (operators_clauses vars basis z steps room)

-- ---- room in a layout

length-numbered : (v : ℕ) (ps : List Pair) → length (numbered v ps) ≡ length ps
unfolding numbered
length-numbered v [] = refl
length-numbered v (p ∷ ps) = ap suc (length-numbered (v + 1) ps)

slot_within : (pairs : ℕ → List Pair) (v place count : ℕ) (s : StepSlots) (u : Slot) → IsSlotOf (laid pairs v place count) s u → u.var < v + slot_count (laid pairs v place count)
unfolding laid slot_count
slot_within pairs v place zero s u is = absurd (omega (arith, is.step.1))
slot_within pairs v place (suc count) s u is = ⊎_elim
    (λ (here : record { place = place; slots = numbered v (pairs place) } ≡ s).
    let slot = numbered_slot v (pairs place) u (subst (λ (x : StepSlots). Contains x.slots u) (sym here) is.slot) in
    let to = slot.to in
    omega (arith, length-numbered v (pairs place)))
    (λ (later : Contains (laid pairs (v + length (pairs place)) (place + 1) count) s).
    let more = slot_within pairs (v + length (pairs place)) (place + 1) count s u (record { step = later; slot = is.slot }) in
    omega (arith, length-numbered v (pairs place)))
    (contains_cases (record { place = place; slots = numbered v (pairs place) }) s (laid pairs (v + length (pairs place)) (place + 1) count) is.step)

pub layout_has_room : (pairs : ℕ → List Pair) (z : Dimensions) → AreBelow z.n pairs → HasRoom (vars_of z (layout pairs z)) z (layout pairs z)
layout_has_room pairs z below = record {
  common = let some = s_positive z in omega arith;
  slots = λ s u is. let some = s_positive z in omega (arith, slot_within pairs (s_first z) (z.n + 1) z.r s u is);
  positive = λ s u is. slot_positive z (layout pairs z) s u (layout_is_laid pairs z below) is;
}
