-- The clauses that define chains (TAOCP 7.2.2.2), in five families. Loops run in increasing order; the first
-- one named is the outermost.
use Rattle.std.specs.Prelude.{ℕ, ℤ, Bool, true, false, not, List, [], ◌∷◌, ◌++◌, map, if◌then◌else◌}
use Rattle.std.specs.List.{range_with_len, flat_map}
use Rattle.chain_theory.specs.Operator.{apply}
use Rattle.chain_theory.specs.declared.data.Cell.{Cell}
use Rattle.chain_theory.specs.declared.data.Cell.TheVariants.{Zero, One, Free}
use Rattle.op_basis.specs.Basis.{members}
use Rattle.tt_core.specs.Words.{Words, cell_of}
use Rattle.clause_core.specs.declared.raw.RawLit.{RawLit}
use Rattle.clause_core.specs.declared.raw.RawLit.TheVariants.{Var}
use Rattle.enc_theory.specs.declared.data.Dimensions.{Dimensions}
use Rattle.enc_theory.specs.declared.data.Slot.{Slot}
use Rattle.clause_core.specs.Clauses.{written}
use Rattle.enc_theory.specs.Numbering.{places, rows, outputs, g_var, f_var, x_is}
use Rattle.enc_theory.specs.Pairs.{StepSlots}

-- ---- Some step drives each output h: one clause "some i drives h" over all steps i.

unfoldable pub driver : Dimensions → ℕ → ℕ → RawLit
driver z h i = Var (g_var z h i) true

unfoldable pub out_exists_at : Dimensions → ℕ → List (List ℤ)
out_exists_at z h = written (map (driver z h) (places z))

unfoldable pub out_exists : Dimensions → List (List ℤ)
out_exists z = flat_map (out_exists_at z) (outputs z)

-- ---- The driver of output h has the values of its cells: for h, step i and row t with a cell that isn't a
-- don't-care, "i doesn't drive h, or i has the cell's bit on t".

unfoldable pub out_value_is : Dimensions → ℕ → ℕ → ℕ → Bool → List (List ℤ)
out_value_is z h i t bit = written (Var (g_var z h i) false ∷ x_is z i t bit ∷ [])

unfoldable pub out_value_at : Dimensions → ℕ → ℕ → ℕ → Cell → List (List ℤ)
out_value_at z h i t Zero = out_value_is z h i t false
out_value_at z h i t One = out_value_is z h i t true
out_value_at z h i t Free = []

unfoldable pub out_value : Words → Dimensions → ℕ → ℕ → ℕ → List (List ℤ)
out_value w z h i t = out_value_at z h i t (cell_of w h t)

unfoldable pub out_values_of : Words → Dimensions → ℕ → ℕ → List (List ℤ)
out_values_of w z h i = flat_map (out_value w z h i) (rows z)

unfoldable pub out_values_at : Words → Dimensions → ℕ → List (List ℤ)
out_values_at w z h = flat_map (out_values_of w z h) (places z)

unfoldable pub out_values : Words → Dimensions → List (List ℤ)
out_values w z = flat_map (out_values_at w z) (outputs z)

-- ---- Each step has some pair: one clause over all its selection variables.

unfoldable pub chosen : Slot → RawLit
chosen u = Var u.var true

unfoldable pub pair_exists_at : StepSlots → List (List ℤ)
pair_exists_at s = written (map chosen s.slots)

unfoldable pub pair_exists : List StepSlots → List (List ℤ)
pair_exists steps = flat_map pair_exists_at steps

-- ---- The value of a step is its operator's value at its operands' values: for step i, pair (j, k), row t and
-- bits a, b, c, "i doesn't have this pair, or i isn't a on t, or j isn't b, or k isn't c, or the operator is a
-- at (b, c)".

unfoldable pub value_raw : Dimensions → ℕ → Slot → ℕ → Bool → Bool → Bool → List RawLit
value_raw z i u t a b c = Var u.var false ∷ x_is z i t (not a) ∷ x_is z u.j t (not b) ∷ x_is z u.k t (not c) ∷ Var
    (f_var z i b c) a ∷ []

unfoldable pub value_clause : Dimensions → ℕ → Slot → ℕ → Bool → Bool → Bool → List (List ℤ)
value_clause z i u t a b c = written (value_raw z i u t a b c)

-- the four clauses with bit a, and the eight of a row
unfoldable pub value_bit : Dimensions → ℕ → Slot → ℕ → Bool → List (List ℤ)
value_bit z i u t a = value_clause z i u t a false false ++ value_clause z i u t a false true ++
    value_clause z i u t a true false ++ value_clause z i u t a true true

unfoldable pub value_row : Dimensions → ℕ → Slot → ℕ → List (List ℤ)
value_row z i u t = value_bit z i u t false ++ value_bit z i u t true

unfoldable pub value_slot : Dimensions → ℕ → Slot → List (List ℤ)
value_slot z i u = flat_map (value_row z i u) (rows z)

unfoldable pub value_step : Dimensions → StepSlots → List (List ℤ)
value_step z s = flat_map (value_slot z s.place) s.slots

unfoldable pub values : Dimensions → List StepSlots → List (List ℤ)
values z steps = flat_map (value_step z) steps

-- ---- Each step's operator is in the basis: for step i and each operator outside the basis, one clause "i has
-- another value at 00, or at 01, or at 10, or at 11".

unfoldable pub operator_raw : Dimensions → ℕ → ℕ → List RawLit
operator_raw z i op = Var (f_var z i false false) (not (apply op false false)) ∷ Var (f_var z i false true)
    (not (apply op false true)) ∷ Var (f_var z i true false) (not (apply op true false)) ∷ Var (f_var z i true true)
    (not (apply op true true)) ∷ []

unfoldable pub operator_clause : ℕ → Dimensions → ℕ → ℕ → List (List ℤ)
operator_clause basis z i op = if members basis op then [] else written (operator_raw z i op)

unfoldable pub operators_at : ℕ → Dimensions → ℕ → List (List ℤ)
operators_at basis z i = flat_map (operator_clause basis z i) (range_with_len 0 16)

unfoldable pub operators : ℕ → Dimensions → List (List ℤ)
operators basis z = flat_map (operators_at basis z) (places z)

-- ---- The clauses that define chains: the five families in their order.
unfoldable pub common : Words → ℕ → Dimensions → List StepSlots → List (List ℤ)
common w basis z steps = out_exists z ++ out_values w z ++ pair_exists steps ++ values z steps ++ operators basis z
