-- The chain that an assignment spells.
use Rattle.std.specs.Prelude.{ℕ, ◌+◌, ◌-◌, true, false, List, [], ◌∷◌, length, map, slice_index_or, Option, Some, None, if◌then◌else◌}
use Rattle.std.specs.List.{range_with_len}
use Rattle.chain_theory.specs.Specification.{Specification}
use Rattle.chain_theory.specs.Chain.{Step, Chain}
use Rattle.chain_theory.specs.declared.data.Out.{Out}
use Rattle.chain_theory.specs.declared.data.Out.TheVariants.{Zero, Place}
use Rattle.op_basis.specs.Closed.{of_values}
use Rattle.sat_theory.specs.Formula.{Assignment}
use Rattle.tt_core.specs.Words.{Words, specification}
use Rattle.tt_core.specs.Live.{trivial_of, live_among}
use Rattle.enc_theory.specs.declared.data.Dimensions.{Dimensions}
use Rattle.enc_theory.specs.declared.data.Pair.{Pair}
use Rattle.enc_theory.specs.declared.data.Slot.{Slot}
use Rattle.enc_theory.specs.Numbering.{places, outputs, g_var, f_var}
use Rattle.enc_theory.specs.Pairs.{StepSlots, pair}

-- a step has the first of its pairs whose selection variable is true
unfoldable pub first_pair : Assignment → List Slot → Pair
first_pair v [] = pair 1 1
first_pair v (u ∷ us) = if v u.var then pair u.j u.k else first_pair v us

-- and the operator that its four variables spell
abbrev pub operator_in : Dimensions → Assignment → ℕ → ℕ
operator_in z v i = of_values (v (f_var z i false false)) (v (f_var z i false true)) (v (f_var z i true false)) (v (f_var z i true true))

unfoldable pub decoded_step : Dimensions → Assignment → StepSlots → Step
decoded_step z v s = record { j = (first_pair v s.slots).j; k = (first_pair v s.slots).k; op = operator_in z v s.place }

-- a live output is driven by the first step whose variable for it is true
unfoldable pub first_driver : Dimensions → Assignment → ℕ → List ℕ → ℕ
first_driver z v h [] = z.n + 1
first_driver z v h (i ∷ is) = if v (g_var z h i) then i else first_driver z v h is

unfoldable pub decoded_out : Dimensions → Assignment → ℕ → Out
decoded_out z v h = Place (first_driver z v h (places z))

-- A trivial output is its constant or input; a live one is the next of the live outputs.
abbrev pub restored_out : Option Out → Out → Out
restored_out (Some out) next = out
restored_out None next = next

unfoldable pub restored_at : Specification → List Out → ℕ → Out
restored_at s live h = restored_out (trivial_of s h) (slice_index_or live (length (live_among s (h - 1))) Zero)

-- The live outputs, with the trivial ones in their places among them.
-- Example: where the second of three outputs is x1 and the live ones are x3 and x4, the result is x3, x1, x4.
unfoldable pub restored : Specification → List Out → List Out
restored s live = map (restored_at s live) (range_with_len 1 s.outputs)

-- The chain with given steps, for truth tables; `z` has the number of live outputs.
abbrev pub with_outs : Words → Dimensions → List Step → Assignment → Chain
with_outs w z steps v = record { n = w.n; steps = steps; outs = restored (specification w) (map (decoded_out z v) (outputs z)) }

-- The chain whose steps have pairs.
unfoldable pub decoded : Words → Dimensions → List StepSlots → Assignment → Chain
decoded w z steps v = with_outs w z (map (decoded_step z v) steps) v
