-- The numbers of clauses of the families are within the program's bounds.
use Rattle.std.specs.Prelude.{ℕ, ◌+◌, ◌*◌, ◌^◌, ◌≤◌, Bool, true, false, List, [], ◌∷◌, length, if◌then◌else◌}
use Rattle.std.specs.List.{range_with_len, flat_map}
use Rattle.std.proofs.Common.{arith, length-append}
use Rattle.chain_theory.specs.declared.data.Cell.{Cell}
use Rattle.chain_theory.specs.declared.data.Cell.TheVariants.{Zero, One, Free}
use Rattle.op_basis.specs.Basis.{members}
use Rattle.tt_core.specs.Words.{Words, cell_of}
use Rattle.clause_core.specs.declared.raw.RawLit.{RawLit}
use Rattle.enc_theory.specs.declared.data.Dimensions.{Dimensions}
use Rattle.enc_theory.specs.declared.data.Slot.{Slot}
use Rattle.clause_core.specs.Clauses.{written}
use Rattle.enc_theory.specs.Pairs.{StepSlots, slot_count}
use Rattle.enc_theory.specs.Families.{out_exists_at, out_exists, out_value_is, out_value_at, out_value, out_values_of}
use Rattle.enc_theory.specs.Families.{out_values_at, out_values, pair_exists_at, pair_exists, value_raw, value_clause}
use Rattle.enc_theory.specs.Families.{value_bit, value_row, value_slot, value_step, values, operator_raw}
use Rattle.enc_theory.specs.Families.{operator_clause, operators_at, operators, common}
use Rattle.enc_base.specs.Room.{IsSmall}
use Rattle.enc_base.specs.BoundLaws.{rows_few}
use Rattle.clause_core.specs.CountLaws.{flat_map-few, pieces-few, written-few}
use Rattle.chain_theory.specs.Limits.{most_steps}

-- ---- the families

pub out_exists-few : (z : Dimensions) → IsSmall z → length (out_exists z) ≤ 8
unfolding out_exists out_exists_at
out_exists-few z small =
    let all : length (flat_map (out_exists_at z) (range_with_len 1 z.m)) ≤ z.m * 1 = flat_map-few (out_exists_at z) 1 1 z.m (λ h low high. written-few _) in
    omega (arith, all, small.outputs)

value_at-few : (z : Dimensions) (h i t : ℕ) (cell : Cell) → length (out_value_at z h i t cell) ≤ 1
unfolding out_value_at out_value_is
value_at-few z h i t Zero = written-few _
value_at-few z h i t One = written-few _
value_at-few z h i t Free = omega arith

out_values_of-few : (w : Words) (z : Dimensions) (h i : ℕ) → IsSmall z → length (out_values_of w z h i) ≤ 64
unfolding out_values_of out_value
out_values_of-few w z h i small =
    let all : length (flat_map (out_value w z h i) (range_with_len 0 (2 ^ z.n))) ≤ 2 ^ z.n * 1 = flat_map-few (out_value w z h i) 1 0 (2 ^ z.n) (λ t low high. value_at-few z h i t (cell_of w h t)) in
    omega (arith, all, rows_few z.n small.inputs)

out_values_at-few : (w : Words) (z : Dimensions) (h : ℕ) → IsSmall z → length (out_values_at w z h) ≤ 1024
unfolding out_values_at
out_values_at-few w z h small =
    let all : length (flat_map (out_values_of w z h) (range_with_len (z.n + 1) z.r)) ≤ z.r * 64 = flat_map-few (out_values_of w z h) 64 (z.n + 1) z.r (λ i low high. out_values_of-few w z h i small) in
    omega (arith, all, small.steps)

pub out_values-few : (w : Words) (z : Dimensions) → IsSmall z → length (out_values w z) ≤ 8192
unfolding out_values
out_values-few w z small =
    let all : length (flat_map (out_values_at w z) (range_with_len 1 z.m)) ≤ z.m * 1024 = flat_map-few (out_values_at w z) 1024 1 z.m (λ h low high. out_values_at-few w z h small) in
    omega (arith, all, small.outputs)

pair_exists-few : (steps : List StepSlots) → length (pair_exists steps) ≤ length steps
unfolding pair_exists pair_exists_at
pair_exists-few steps = let all : length (flat_map pair_exists_at steps) ≤ length steps * 1 = pieces-few pair_exists_at 1 steps (λ s. written-few _) in omega (arith, all)

value_bit-few : (z : Dimensions) (i : ℕ) (u : Slot) (t : ℕ) (a : Bool) → length (value_bit z i u t a) ≤ 4
unfolding value_bit value_clause
value_bit-few z i u t a = rw (length-append, length-append, length-append)
    (omega (
      arith,
      written-few (value_raw z i u t a false false),
      written-few (value_raw z i u t a false true),
      written-few (value_raw z i u t a true false),
      written-few (value_raw z i u t a true true),
    ))

value_row-few : (z : Dimensions) (i : ℕ) (u : Slot) (t : ℕ) → length (value_row z i u t) ≤ 8
unfolding value_row
value_row-few z i u t = rw length-append (omega (arith, value_bit-few z i u t false, value_bit-few z i u t true))

value_slot-few : (z : Dimensions) (i : ℕ) (u : Slot) → IsSmall z → length (value_slot z i u) ≤ 512
unfolding value_slot
value_slot-few z i u small =
    let all : length (flat_map (value_row z i u) (range_with_len 0 (2 ^ z.n))) ≤ 2 ^ z.n * 8 = flat_map-few (value_row z i u) 8 0 (2 ^ z.n) (λ t low high. value_row-few z i u t) in
    omega (arith, all, rows_few z.n small.inputs)

values-few : (z : Dimensions) (steps : List StepSlots) → IsSmall z → length (values z steps) ≤ slot_count steps * 512
unfolding values value_step slot_count
values-few z [] small = omega arith
values-few z (s ∷ steps) small =
    let own : length (flat_map (value_slot z s.place) s.slots) ≤ length s.slots * 512 = pieces-few (value_slot z s.place) 512 s.slots (λ u. value_slot-few z s.place u small) in
    let rest : length (flat_map (value_step z) steps) ≤ slot_count steps * 512 = values-few z steps small in
    rw length-append (omega (arith, own, rest))

clause_if-few : (member : Bool) (raws : List RawLit) → length (if member then [] else written raws) ≤ 1
clause_if-few true raws = omega arith
clause_if-few false raws = written-few raws

operators_at-few : (basis : ℕ) (z : Dimensions) (i : ℕ) → length (operators_at basis z i) ≤ 16
unfolding operators_at operator_clause
operators_at-few basis z i =
    let all : length (flat_map (operator_clause basis z i) (range_with_len 0 16)) ≤ 16 * 1 =
    flat_map-few (operator_clause basis z i) 1 0 16 (λ op low high.
    clause_if-few (members basis op) (operator_raw z i op)) in
    omega (arith, all)

pub operators-few : (basis : ℕ) (z : Dimensions) → IsSmall z → length (operators basis z) ≤ 256
unfolding operators
operators-few basis z small =
    let all : length (flat_map (operators_at basis z) (range_with_len (z.n + 1) z.r)) ≤ z.r * 16 = flat_map-few (operators_at basis z) 16 (z.n + 1) z.r (λ i low high. operators_at-few basis z i) in
    omega (arith, all, small.steps)

-- The clauses that define chains are few enough for a formula.
pub common-few : (w : Words) (basis : ℕ) (z : Dimensions) (steps : List StepSlots) → IsSmall z → length steps ≤ most_steps → slot_count steps ≤ 16000 → length (common w basis z steps) ≤ 10000000
unfolding common
common-few w basis z steps small few slots =
    rw (length-append, length-append, length-append, length-append)
    (omega (arith, few, slots, out_exists-few z small, out_values-few w z small, pair_exists-few steps, values-few z steps small, operators-few basis z small))
