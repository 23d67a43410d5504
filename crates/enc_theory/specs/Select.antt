-- The encoding with a selection variable for each single operand (MSV, multiple selection variables), and with
-- variables for the operands' values: fewer variables and clauses than with one for each pair (Kojevnikov,
-- Kulikov and Yaroslavtsev, "Finding Efficient Circuits Using SAT-solvers", 2009). Its symmetry-breaking
-- constraints are those of the encoding by pairs, as far as single operands can express them. Loops run in
-- increasing order; the first one named is the outermost.
use Rattle.std.specs.Prelude.{ℕ, zero, suc, ℤ, ◌+◌, ◌-◌, ◌*◌, ◌^◌, Bool, true, false, ◌&&◌, not, List, [], ◌∷◌, ◌++◌}
use Rattle.std.specs.Prelude.{map, min, max, nat_lt, ◌==◌, if◌then◌else◌}
use Rattle.std.specs.List.{range_with_len, flat_map}
use Rattle.chain_theory.specs.Chain.{Step, Chain}
use Rattle.op_basis.specs.Basis.{members}
use Rattle.op_basis.specs.Closed.{swap_closed, const_closed, reapply_closed}
use Rattle.sat_theory.specs.Formula.{Formula, Assignment}
use Rattle.tt_core.specs.Words.{Words}
use Rattle.tt_core.specs.Live.{live_words}
use Rattle.clause_core.specs.declared.raw.RawLit.{RawLit}
use Rattle.clause_core.specs.declared.raw.RawLit.TheVariants.{Var}
use Rattle.enc_theory.specs.declared.data.Side.{Side}
use Rattle.enc_theory.specs.declared.data.Side.TheVariants.{First, Second}
use Rattle.enc_theory.specs.declared.data.Dimensions.{Dimensions}
use Rattle.clause_core.specs.Clauses.{written}
use Rattle.enc_theory.specs.Numbering.{sizes_of, places, rows, outputs, f_var, s_first, x_is}
use Rattle.enc_theory.specs.Families.{out_exists, out_values, operator_raw, operators}
use Rattle.enc_theory.specs.Cuts.{drives, not_idle, row_0}
use Rattle.enc_theory.specs.Decode.{operator_in, with_outs}

-- ---- Variables: those of values, outputs and operators are as in an encoding by pairs; after them come the
-- selection variables of first operands, those of second operands, the values of first operands and those of
-- second operands.

-- The number of selection variables of one side for the first steps: an operand may be any lower place.
-- Example: with 2 inputs, 2 for the first step, and 5 for the first two.
unfoldable pub operand_count : ℕ → ℕ → ℕ
operand_count n zero = 0
operand_count n (suc steps) = operand_count n steps + (n + steps)

unfoldable pub choice_first : Dimensions → Side → ℕ
choice_first z First = s_first z
choice_first z Second = s_first z + operand_count z.n z.r

-- An operand of step i is place j: first all places below the first step, then those below the next.
unfoldable pub choice_var : Dimensions → Side → ℕ → ℕ → ℕ
choice_var z side i j = choice_first z side + operand_count z.n (i - (z.n + 1)) + (j - 1)

unfoldable pub value_first : Dimensions → Side → ℕ
value_first z First = s_first z + 2 * operand_count z.n z.r
value_first z Second = s_first z + 2 * operand_count z.n z.r + z.r * 2 ^ z.n

-- An operand of step i has the value 1 on row t: first all rows of the first step, then those of the next.
unfoldable pub value_var : Dimensions → Side → ℕ → ℕ → ℕ
value_var z side i t = value_first z side + (i - (z.n + 1)) * 2 ^ z.n + t

-- the number of all variables
unfoldable pub select_vars : Dimensions → ℕ
select_vars z = s_first z - 1 + 2 * operand_count z.n z.r + 2 * (z.r * 2 ^ z.n)

-- the places below one, and the steps above one
abbrev pub below : ℕ → List ℕ
below i = range_with_len 1 (i - 1)

abbrev pub above : Dimensions → ℕ → List ℕ
above z i = range_with_len (i + 1) (z.n + z.r - i)

-- ---- Each step has operands: for step i, one clause that the first operand is some place below it, and one
-- that the second is.

unfoldable pub chooses : Dimensions → Side → ℕ → ℕ → RawLit
chooses z side i j = Var (choice_var z side i j) true

unfoldable pub choice_exists : Dimensions → ℕ → Side → List (List ℤ)
choice_exists z i side = written (map (chooses z side i) (below i))

unfoldable pub choices_exist : Dimensions → ℕ → List (List ℤ)
choices_exist z i = choice_exists z i First ++ choice_exists z i Second

unfoldable pub operands_exist : Dimensions → List (List ℤ)
operands_exist z = flat_map (choices_exist z) (places z)

-- ---- An operand has the value of the selected place: for step i, place j below it, row t and bit e, "the
-- operand isn't j, or its value is e, or j isn't e".

unfoldable pub copy_raw : Dimensions → Side → ℕ → ℕ → ℕ → Bool → List RawLit
copy_raw z side i j t e = Var (choice_var z side i j) false ∷ Var (value_var z side i t) e ∷ x_is z j t (not e) ∷ []

unfoldable pub copy_row : Dimensions → Side → ℕ → ℕ → ℕ → List (List ℤ)
copy_row z side i j t = written (copy_raw z side i j t false) ++ written (copy_raw z side i j t true)

unfoldable pub copy_place : Dimensions → Side → ℕ → ℕ → List (List ℤ)
copy_place z side i j = flat_map (copy_row z side i j) (rows z)

unfoldable pub copy_step : Dimensions → Side → ℕ → List (List ℤ)
copy_step z side i = flat_map (copy_place z side i) (below i)

unfoldable pub copies : Dimensions → Side → List (List ℤ)
copies z side = flat_map (copy_step z side) (places z)

-- ---- The value of a step is its operator's value at its operands' values: for step i, row t and bits a, b, c,
-- "i isn't a, or its first operand isn't b, or its second isn't c, or the operator is a at (b, c)".

unfoldable pub result_raw : Dimensions → ℕ → ℕ → Bool → Bool → Bool → List RawLit
result_raw z i t a b c = x_is z i t (not a) ∷ Var (value_var z First i t) (not b) ∷ Var (value_var z Second i t)
    (not c) ∷ Var (f_var z i b c) a ∷ []

unfoldable pub result_clause : Dimensions → ℕ → ℕ → Bool → Bool → Bool → List (List ℤ)
result_clause z i t a b c = written (result_raw z i t a b c)

unfoldable pub result_bit : Dimensions → ℕ → ℕ → Bool → List (List ℤ)
result_bit z i t a = result_clause z i t a false false ++ result_clause z i t a false true ++
    result_clause z i t a true false ++ result_clause z i t a true true

unfoldable pub result_row : Dimensions → ℕ → ℕ → List (List ℤ)
result_row z i t = result_bit z i t false ++ result_bit z i t true

unfoldable pub result_step : Dimensions → ℕ → List (List ℤ)
result_step z i = flat_map (result_row z i) (rows z)

unfoldable pub results : Dimensions → List (List ℤ)
results z = flat_map (result_step z) (places z)

-- ---- The clauses that define chains: outputs and operators as in an encoding by pairs.
unfoldable pub chosen_chain : Words → ℕ → Dimensions → List (List ℤ)
chosen_chain w basis z = out_exists z ++ out_values w z ++ operands_exist z ++ copies z First ++ copies z Second ++
    results z ++ operators basis z

-- ---- The first operand is at most the second, if the basis is closed under exchanging them: for step i,
-- places j below it and k below j, "not j and k".

-- "the step's operands aren't these"
abbrev pub not_these : Dimensions → ℕ → ℕ → ℕ → List RawLit
not_these z i j k = Var (choice_var z First i j) false ∷ Var (choice_var z Second i k) false ∷ []

unfoldable pub rising_pair : Dimensions → ℕ → ℕ → ℕ → List (List ℤ)
rising_pair z i j k = written (not_these z i j k)

unfoldable pub rising_from : Dimensions → ℕ → ℕ → List (List ℤ)
rising_from z i j = flat_map (rising_pair z i j) (below j)

unfoldable pub rising_step : Dimensions → ℕ → List (List ℤ)
rising_step z i = flat_map (rising_from z i) (below i)

unfoldable pub rising : ℕ → Dimensions → List (List ℤ)
rising basis z = if swap_closed (members basis) then flat_map (rising_step z) (places z) else []

-- ---- All steps used: for step i, one clause "i drives some output, or some later step has i as its first or
-- as its second operand".

unfoldable pub choosers : Dimensions → ℕ → ℕ → List RawLit
choosers z p i = chooses z First i p ∷ chooses z Second i p ∷ []

unfoldable pub used_step : Dimensions → ℕ → List (List ℤ)
used_step z i = written (map (drives z i) (outputs z) ++ flat_map (choosers z i) (above z i))

unfoldable pub used_steps : Dimensions → List (List ℤ)
used_steps z = flat_map (used_step z) (places z)

-- ---- Non-trivial operators: no projection, and no constant for bases where constants aren't needed.

-- With both operands at place j the operator is a negation, for bases where constants aren't needed; for others
-- it is at least not the identity.
unfoldable pub equal_choice : Bool → Dimensions → ℕ → ℕ → List (List ℤ)
equal_choice constants z i j =
    if constants then written (not_these z i j j ++ Var (f_var z i false false) true ∷ []) ++
    written (not_these z i j j ++ Var (f_var z i true true) false ∷ [])
    else written (not_these z i j j ++ Var (f_var z i false false) true ∷ Var (f_var z i true true) false ∷ [])

-- A negation of an operand has that operand twice: for 1010 or 1100 in the basis and different places j and k
-- below step i, "the operator isn't this one, or not j and k".
unfoldable pub negation_pair : Dimensions → ℕ → ℕ → ℕ → ℕ → List (List ℤ)
negation_pair z i op j k = if j == k then [] else written (operator_raw z i op ++ not_these z i j k)

unfoldable pub negation_from : Dimensions → ℕ → ℕ → ℕ → List (List ℤ)
negation_from z i op j = flat_map (negation_pair z i op j) (below i)

unfoldable pub negation_step : ℕ → Dimensions → ℕ → ℕ → List (List ℤ)
negation_step basis z i op = if members basis op then flat_map (negation_from z i op) (below i) else []

unfoldable pub trivial_step : Bool → ℕ → Dimensions → ℕ → List (List ℤ)
trivial_step constants basis z i = not_idle constants basis z i ++ flat_map (equal_choice constants z i) (below i) ++
    flat_map (negation_step basis z i) (10 ∷ 12 ∷ [])

unfoldable pub trivial_steps : ℕ → Dimensions → List (List ℤ)
trivial_steps basis z = flat_map (trivial_step (const_closed (members basis)) basis z) (places z)

-- ---- Co-lexicographic order: second operands never decrease, if the second operand is the larger one: for
-- step i except the last, places k below it and l below k, "i doesn't have k, or step i + 1 doesn't have l".

unfoldable pub falling_pair : Dimensions → ℕ → ℕ → ℕ → List (List ℤ)
falling_pair z i k l = written (Var (choice_var z Second i k) false ∷ Var (choice_var z Second (i + 1) l) false ∷ [])

unfoldable pub falling_from : Dimensions → ℕ → ℕ → List (List ℤ)
falling_from z i k = flat_map (falling_pair z i k) (below k)

unfoldable pub falling_step : Dimensions → ℕ → List (List ℤ)
falling_step z i = flat_map (falling_from z i) (below i)

unfoldable pub not_falling : ℕ → Dimensions → List (List ℤ)
not_falling basis z = if swap_closed (members basis) then flat_map (falling_step z) (range_with_len (z.n + 1) (z.r - 1))
    else []

-- ---- No re-application, if the basis is closed under it: for step i, a later step l, places j and k below i,
-- and o one of them, "not j and k, or l doesn't have o and i", and "or l doesn't have i and o". Where j is at
-- most k, only the first clause.

-- the operands, each once, the smaller first
abbrev pub different : ℕ → ℕ → List ℕ
different j k = if j == k then j ∷ [] else min j k ∷ max j k ∷ []

unfoldable pub no_reapplication_operand : Bool → Dimensions → ℕ → ℕ → ℕ → ℕ → ℕ → List (List ℤ)
no_reapplication_operand ordered z i l j k o = written (not_these z i j k ++ not_these z l o i) ++
    (if ordered then [] else written (not_these z i j k ++ not_these z l i o))

unfoldable pub no_reapplication_operands : Bool → Dimensions → ℕ → ℕ → ℕ → ℕ → List (List ℤ)
no_reapplication_operands ordered z i l j k = if ordered && nat_lt k j then []
    else flat_map (no_reapplication_operand ordered z i l j k) (different j k)

unfoldable pub no_reapplication_from : Bool → Dimensions → ℕ → ℕ → ℕ → List (List ℤ)
no_reapplication_from ordered z i l j = flat_map (no_reapplication_operands ordered z i l j) (below i)

unfoldable pub no_reapplication_after : Bool → Dimensions → ℕ → ℕ → List (List ℤ)
no_reapplication_after ordered z i l = flat_map (no_reapplication_from ordered z i l) (below i)

unfoldable pub no_reapplication_step : Bool → Dimensions → ℕ → List (List ℤ)
no_reapplication_step ordered z i = flat_map (no_reapplication_after ordered z i) (above z i)

unfoldable pub no_reapplication_steps : ℕ → Dimensions → List (List ℤ)
no_reapplication_steps basis z = if reapply_closed (members basis)
    then flat_map (no_reapplication_step (swap_closed (members basis)) z) (places z) else []

-- ---- All constraints, in their order; the last one (normal steps) is that of the encoding by pairs.
unfoldable pub chosen_cuts : ℕ → Dimensions → List (List ℤ)
chosen_cuts basis z = rising basis z ++ used_steps z ++ trivial_steps basis z ++ not_falling basis z ++
    no_reapplication_steps basis z ++ row_0 basis z

-- ---- The formula for tables whose outputs are all live.
unfoldable pub select_live : Words → ℕ → ℕ → Formula
select_live w basis r =
    let z = sizes_of w r in
    record { vars = select_vars z; clauses = chosen_chain w basis z ++ chosen_cuts basis z }

-- The formula for any tables, over a set of operators given as a number: that of the live outputs.
unfoldable pub select_formula : Words → ℕ → ℕ → Formula
select_formula w basis r = select_live (live_words w) basis r

-- ---- The chain that an assignment spells: each operand is the first lower place whose selection variable is
-- true.

unfoldable pub first_choice : Dimensions → Assignment → Side → ℕ → List ℕ → ℕ
first_choice z v side i [] = 1
first_choice z v side i (j ∷ js) = if v (choice_var z side i j) then j else first_choice z v side i js

unfoldable pub chosen_step : Dimensions → Assignment → ℕ → Step
chosen_step z v i = record {
  j = first_choice z v First i (below i);
  k = first_choice z v Second i (below i);
  op = operator_in z v i;
}

-- the chain of r steps that an assignment of the formula's variables spells
unfoldable pub select_decoded : Words → ℕ → Assignment → Chain
select_decoded w r v = let z = sizes_of (live_words w) r in with_outs w z (map (chosen_step z v) (places z)) v
