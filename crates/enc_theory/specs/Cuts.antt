-- Symmetry-breaking and structural constraints: further clauses, which some minimum chain satisfies. They are
-- those of Kojevnikov, Kulikov and Yaroslavtsev ("Finding Efficient Circuits Using SAT-solvers", 2009), Knuth
-- (TAOCP 7.2.2.2, exercise 477) and Haaswijk, Soeken, Mishchenko and De Micheli ("SAT-Based Exact Synthesis",
-- 2020), each only for the bases for which it is sound. Loops run in increasing order; the first one named is
-- the outermost.
use Rattle.std.specs.Prelude.{ℕ, suc, ℤ, Bool, true, false, ◌&&◌, ◌||◌, not, List, [], ◌∷◌, ◌++◌, length, map, min, max}
use Rattle.std.specs.Prelude.{nat_lt, ◌==◌, ◌-◌, ◌^◌, if◌then◌else◌}
use Rattle.std.specs.List.{range_with_len, flat_map, filter, list_all}
use Rattle.chain_theory.specs.declared.data.Cell.{Cell}
use Rattle.chain_theory.specs.declared.data.Cell.TheVariants.{Zero, One, Free}
use Rattle.op_basis.specs.Basis.{members}
use Rattle.op_basis.specs.Closed.{const_closed, polarity_closed, reapply_closed}
use Rattle.tt_core.specs.Symmetry.{exchanged}
use Rattle.tt_core.specs.Words.{Words, cell_of}
use Rattle.clause_core.specs.declared.raw.RawLit.{RawLit}
use Rattle.clause_core.specs.declared.raw.RawLit.TheVariants.{Var}
use Rattle.enc_theory.specs.declared.data.Dimensions.{Dimensions}
use Rattle.enc_theory.specs.declared.data.Slot.{Slot}
use Rattle.clause_core.specs.Clauses.{written}
use Rattle.enc_theory.specs.Numbering.{places, outputs, f_var, x_is}
use Rattle.enc_theory.specs.Pairs.{StepSlots}
use Rattle.enc_theory.specs.Families.{driver, chosen, operator_raw}

-- ---- All steps used: for step i, one clause "i drives some output, or some later step has a pair with i".

-- step i drives output h
unfoldable pub drives : Dimensions → ℕ → ℕ → RawLit
drives z i h = driver z h i

-- place p is an operand of the pair
abbrev pub reads : Slot → ℕ → Bool
reads u p = u.j == p || u.k == p

unfoldable pub reader : ℕ → Slot → List RawLit
reader p u = if reads u p then chosen u ∷ [] else []

unfoldable pub readers : ℕ → StepSlots → List RawLit
readers p s = flat_map (reader p) s.slots

unfoldable pub used_by : Dimensions → StepSlots → List StepSlots → List (List ℤ)
used_by z s later = written (map (drives z s.place) (outputs z) ++ flat_map (readers s.place) later)

unfoldable pub used : Dimensions → List StepSlots → List (List ℤ)
used z [] = []
used z (s ∷ later) = used_by z s later ++ used z later

-- ---- Non-trivial operators.

-- "the step's operator isn't op", if op is in the basis
unfoldable pub other_operator : ℕ → Dimensions → ℕ → ℕ → List (List ℤ)
other_operator basis z i op = if members basis op then written (operator_raw z i op) else []

-- the projections 0011 and 0101, and with them the constants 0000 and 1111
abbrev pub idle_operators : Bool → List ℕ
idle_operators constants = if constants then 0 ∷ 3 ∷ 5 ∷ 15 ∷ [] else 3 ∷ 5 ∷ []

unfoldable pub not_idle : Bool → ℕ → Dimensions → ℕ → List (List ℤ)
not_idle constants basis z i = flat_map (other_operator basis z i) (idle_operators constants)

-- With equal operands the operator is a negation, for bases where constants aren't needed: "the step doesn't
-- have this pair, or the operator is 1 at 00", and the same with 0 at 11. For other bases it is at least not
-- the identity.
unfoldable pub equal_raw : Bool → Dimensions → ℕ → Slot → List (List ℤ)
equal_raw constants z i u =
    if constants then written (Var u.var false ∷ Var (f_var z i false false) true ∷ []) ++
    written (Var u.var false ∷ Var (f_var z i true true) false ∷ [])
    else written (Var u.var false ∷ Var (f_var z i false false) true ∷ Var (f_var z i true true) false ∷ [])

unfoldable pub equal_slot : Bool → Dimensions → ℕ → Slot → List (List ℤ)
equal_slot constants z i u = if u.j == u.k then equal_raw constants z i u else []

unfoldable pub equal_pair : Slot → List RawLit
equal_pair u = if u.j == u.k then chosen u ∷ [] else []

-- A negation of an operand, 1010 or 1100, has that operand twice: "the operator isn't this one, or the step has
-- some pair of equal operands".
unfoldable pub negation_raw : ℕ → Dimensions → StepSlots → ℕ → List (List ℤ)
negation_raw basis z s op = if members basis op then written (operator_raw z s.place op ++ flat_map equal_pair s.slots)
    else []

unfoldable pub negations : ℕ → Dimensions → StepSlots → List (List ℤ)
negations basis z s = flat_map (negation_raw basis z s) (10 ∷ 12 ∷ [])

unfoldable pub not_trivial_at : Bool → ℕ → Dimensions → StepSlots → List (List ℤ)
not_trivial_at constants basis z s = not_idle constants basis z s.place ++
    flat_map (equal_slot constants z s.place) s.slots ++ negations basis z s

unfoldable pub not_trivial : ℕ → Dimensions → List StepSlots → List (List ℤ)
not_trivial basis z steps = flat_map (not_trivial_at (const_closed (members basis)) basis z) steps

-- ---- Co-lexicographic order: for step i, a pair of it, and a pair of step i + 1 that comes before that one,
-- "not both".

abbrev pub larger : Slot → ℕ
larger u = max u.j u.k

abbrev pub smaller : Slot → ℕ
smaller u = if u.j == u.k then 0 else min u.j u.k

-- by the larger operand; then equal operands first; then by the smaller operand
unfoldable pub comes_before : Slot → Slot → Bool
comes_before u v = nat_lt (larger u) (larger v) || (larger u == larger v && nat_lt (smaller u) (smaller v))

unfoldable pub not_both : Slot → Slot → List (List ℤ)
not_both u v = written (Var u.var false ∷ Var v.var false ∷ [])

unfoldable pub order_pair : Slot → Slot → List (List ℤ)
order_pair u v = if comes_before v u then not_both u v else []

unfoldable pub order_slot : List Slot → Slot → List (List ℤ)
order_slot next u = flat_map (order_pair u) next

unfoldable pub order_with : StepSlots → List StepSlots → List (List ℤ)
order_with s [] = []
order_with s (next ∷ later) = flat_map (order_slot next.slots) s.slots

unfoldable pub order : List StepSlots → List (List ℤ)
order [] = []
order (s ∷ later) = order_with s later ++ order later

-- ---- No re-application, if the basis is closed under it: for step i, a later step, a pair (j, k) of i, and a
-- pair of the later step with i and one of j, k, "not both".

unfoldable pub is_reapplication : ℕ → Slot → Slot → Bool
is_reapplication p u v = (v.j == p && reads u v.k) || (v.k == p && reads u v.j)

unfoldable pub no_reapplication_pair : ℕ → Slot → Slot → List (List ℤ)
no_reapplication_pair p u v = if is_reapplication p u v then not_both u v else []

unfoldable pub no_reapplication_slot : ℕ → List Slot → Slot → List (List ℤ)
no_reapplication_slot p reading u = flat_map (no_reapplication_pair p u) reading

-- the pairs with the place
unfoldable pub has_place : ℕ → Slot → Bool
has_place p u = reads u p

abbrev pub reading : ℕ → List Slot → List Slot
reading p slots = filter (has_place p) slots

unfoldable pub no_reapplication_later : StepSlots → StepSlots → List (List ℤ)
no_reapplication_later s later = flat_map (no_reapplication_slot s.place (reading s.place later.slots)) s.slots

unfoldable pub no_reapplication_all : List StepSlots → List (List ℤ)
no_reapplication_all [] = []
no_reapplication_all (s ∷ later) = flat_map (no_reapplication_later s) later ++ no_reapplication_all later

unfoldable pub no_reapplication : ℕ → List StepSlots → List (List ℤ)
no_reapplication basis steps = if reapply_closed (members basis) then no_reapplication_all steps else []

-- ---- Symmetric inputs p < q: no step reads q without p before some step has read p without q. For p, q, step
-- i and a pair of it with q and not p, "the step doesn't have this pair, or some step before has a pair with p
-- and not q".

-- the cells are the same
abbrev pub same_cell : Cell → Cell → Bool
same_cell Zero Zero = true
same_cell One One = true
same_cell Free Free = true
same_cell _ _ = false

unfoldable pub same_at : Words → ℕ → ℕ → ℕ → ℕ → Bool
same_at w p q h t = same_cell (cell_of w h (exchanged w.n p q t)) (cell_of w h t)

unfoldable pub same_output : Words → ℕ → ℕ → ℕ → Bool
same_output w p q h = list_all (same_at w p q h) (range_with_len 0 (2 ^ w.n))

-- inputs p and q are symmetric: exchanging them leaves each cell of each output the same
unfoldable pub may_exchange : Words → ℕ → ℕ → Bool
may_exchange w p q = list_all (same_output w p q) (range_with_len 1 (length w.on))

-- the pair has p and not q
abbrev pub reads_without : ℕ → ℕ → Slot → Bool
reads_without p q u = reads u p && not (reads u q)

unfoldable pub reader_without : ℕ → ℕ → Slot → List RawLit
reader_without p q u = if reads_without p q u then chosen u ∷ [] else []

unfoldable pub readers_without : ℕ → ℕ → StepSlots → List RawLit
readers_without p q s = flat_map (reader_without p q) s.slots

-- `before` are the selection literals of the steps before, for pairs with p and not q
unfoldable pub exchange_slot : ℕ → ℕ → List RawLit → Slot → List (List ℤ)
exchange_slot p q before u = if reads_without q p u then written (Var u.var false ∷ before) else []

unfoldable pub exchange_steps : ℕ → ℕ → List RawLit → List StepSlots → List (List ℤ)
exchange_steps p q before [] = []
exchange_steps p q before (s ∷ later) = flat_map (exchange_slot p q before) s.slots ++
    exchange_steps p q (before ++ readers_without p q s) later

unfoldable pub exchange_pair : Words → List StepSlots → ℕ → ℕ → List (List ℤ)
exchange_pair w steps p q = if may_exchange w p q then exchange_steps p q [] steps else []

unfoldable pub exchange_with : Words → List StepSlots → ℕ → List (List ℤ)
exchange_with w steps p = flat_map (exchange_pair w steps p) (range_with_len (suc p) (w.n - p))

unfoldable pub exchange : Words → List StepSlots → List (List ℤ)
exchange w steps = flat_map (exchange_with w steps) (range_with_len 1 w.n)

-- ---- Normal steps, if the basis is closed under complements: a step that drives no output is 0 on row 0. For
-- step i "i is 0 on row 0, or i drives some output".

unfoldable pub row_0_at : Dimensions → ℕ → List (List ℤ)
row_0_at z i = written (x_is z i 0 false ∷ map (drives z i) (outputs z))

unfoldable pub row_0 : ℕ → Dimensions → List (List ℤ)
row_0 basis z = if polarity_closed (members basis) then flat_map (row_0_at z) (places z) else []

-- ---- All constraints, the six families in their order.
unfoldable pub cuts : Words → ℕ → Dimensions → List StepSlots → List (List ℤ)
cuts w basis z steps = used z steps ++ not_trivial basis z steps ++ order steps ++ no_reapplication basis steps ++
    exchange w steps ++ row_0 basis z
