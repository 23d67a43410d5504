-- The further clauses, and the formulas with them. Loops run in increasing order; the first one named is the
-- outermost.
use Rattle.std.specs.Prelude.{ℕ, ◌+◌, ◌-◌, ◌*◌, ℤ, Bool, true, false, not, ◌&&◌, ◌||◌, ◌==◌, nat_lt, leb, List, [], ◌∷◌, ◌++◌, length, if◌then◌else◌}
use Rattle.std.specs.List.{flat_map}
use Rattle.sat_theory.specs.Formula.{Formula}
use Rattle.tt_core.specs.Words.{Words}
use Rattle.tt_core.specs.Live.{live_words}
use Rattle.clause_core.specs.declared.raw.RawLit.{RawLit}
use Rattle.clause_core.specs.declared.raw.RawLit.TheVariants.{Fixed, Var}
use Rattle.clause_core.specs.Clauses.{written}
use Rattle.enc_theory.specs.declared.data.Dimensions.{Dimensions}
use Rattle.enc_theory.specs.declared.data.Slot.{Slot}
use Rattle.enc_theory.specs.Numbering.{sizes_of, x_is}
use Rattle.enc_theory.specs.Pairs.{StepSlots}
use Rattle.enc_theory.specs.Cuts.{reads, readers, not_both}
use Rattle.enc_theory.specs.Ssv.{ssv_layout, ssv_live}
use Rattle.enc_theory.specs.Fence.{fence_layout, fence_live}
use Rattle.strong_theory.specs.declared.data.Edge.{Edge}
use Rattle.strong_theory.specs.Edges.{edges}

-- ---- At most one pair a step: for each step, pair of it, and pair of it with a larger first operand, or the same and
-- a larger second one, "not both".

unfoldable pub precedes : Slot → Slot → Bool
precedes u v = nat_lt u.j v.j || (u.j == v.j && nat_lt u.k v.k)

unfoldable pub one_of : Slot → Slot → List (List ℤ)
one_of u v = if precedes u v then not_both u v else []

unfoldable pub one_pair_slot : List Slot → Slot → List (List ℤ)
one_pair_slot slots u = flat_map (one_of u) slots

unfoldable pub one_pair_step : StepSlots → List (List ℤ)
one_pair_step s = flat_map (one_pair_slot s.slots) s.slots

unfoldable pub one_pair : List StepSlots → List (List ℤ)
one_pair steps = flat_map one_pair_step steps

-- ---- Which steps differ on an edge: `before` is the number of the variable before those of the edge, one for each
-- step.

-- step i has different values on the edge's rows
unfoldable pub d_var : Dimensions → ℕ → ℕ → ℕ
d_var z before i = before + (i - z.n)

-- place p differs on the edge: of inputs the edge's own one alone
unfoldable pub differs : Dimensions → Edge → ℕ → ℕ → RawLit
differs z e before p = if leb p z.n then Fixed (p == e.input) else Var (d_var z before p) true

-- for bits a and b: "the step isn't a on the lower row, or isn't b on the higher one, or it differs exactly if a and b
-- are different"
unfoldable pub value_differs : Dimensions → Edge → ℕ → ℕ → Bool → Bool → List (List ℤ)
value_differs z e before i a b = written
    (x_is z i e.low (not a) ∷ x_is z i e.high (not b) ∷ Var (d_var z before i) (if a then not b else b) ∷ [])

unfoldable pub values_differ : Dimensions → Edge → ℕ → ℕ → List (List ℤ)
values_differ z e before i = value_differs z e before i false false ++ value_differs z e before i false true ++
    value_differs z e before i true false ++ value_differs z e before i true true

-- a step that differs has an operand that does: for a pair, "the step doesn't differ, or doesn't have this pair, or one
-- of these operands differs"
unfoldable pub operand_differs : Dimensions → Edge → ℕ → ℕ → Slot → List (List ℤ)
operand_differs z e before i u = written
    (Var (d_var z before i) false ∷ Var u.var false ∷ differs z e before u.j ∷ differs z e before u.k ∷ [])

-- the selection literals of the other steps' pairs with an input
unfoldable pub other_readers : ℕ → ℕ → StepSlots → List RawLit
other_readers i j s = if s.place == i then [] else readers j s

-- the only reader of the edge's input differs: for a pair with it, "the step doesn't have this pair, or it differs, or
-- some other step has a pair with the input"
unfoldable pub sole_reader : ℕ → List RawLit → Slot → List (List ℤ)
sole_reader j rest u = if reads u j then written (Var u.var false ∷ rest) else []

unfoldable pub or_others : Dimensions → List StepSlots → Edge → ℕ → ℕ → List RawLit
or_others z steps e before i = Var (d_var z before i) true ∷ flat_map (other_readers i e.input) steps

unfoldable pub edge_step : Dimensions → List StepSlots → Edge → ℕ → StepSlots → List (List ℤ)
edge_step z steps e before s = values_differ z e before s.place ++
    flat_map (operand_differs z e before s.place) s.slots ++
    flat_map (sole_reader e.input (or_others z steps e before s.place)) s.slots

unfoldable pub edge_steps : Dimensions → List StepSlots → Edge → ℕ → List (List ℤ)
edge_steps z steps e before = flat_map (edge_step z steps e before) steps

-- the variables of an edge follow those of the edge before it
unfoldable pub differences : Dimensions → List StepSlots → ℕ → List Edge → List (List ℤ)
differences z steps before [] = []
differences z steps before (e ∷ es) = edge_steps z steps e before ++ differences z steps (before + z.r) es

-- ---- The formulas.

-- a formula of these steps, with the further variables and clauses after its own
unfoldable pub strengthened : Words → Dimensions → List StepSlots → Formula → Formula
strengthened w z steps f = record {
  vars = f.vars + length (edges w) * z.r;
  clauses = f.clauses ++ (one_pair steps ++ differences z steps f.vars (edges w));
}

-- for tables whose outputs are all live: that of SSV, strengthened
unfoldable pub strong_live : Words → ℕ → ℕ → Formula
strong_live w basis r = let z = sizes_of w r in strengthened w z (ssv_layout basis z) (ssv_live w basis r)

-- The formula for any tables, over a set of operators given as a number: that of the live outputs.
unfoldable pub strong_formula : Words → ℕ → ℕ → Formula
strong_formula w basis r = strong_live (live_words w) basis r

-- and those of fences
unfoldable pub strong_fence_live : Words → ℕ → ℕ → List ℕ → Formula
strong_fence_live w basis r fence =
    let z = sizes_of w r in
    strengthened w z (fence_layout basis fence z) (fence_live w basis r fence)

unfoldable pub strong_fence_formula : Words → ℕ → ℕ → List ℕ → Formula
strong_fence_formula w basis r fence = strong_fence_live (live_words w) basis r fence
