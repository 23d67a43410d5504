-- The numbers of a formula's variables. Inputs have the places 1 to n, steps the places n + 1 to n + r.
use Rattle.std.specs.Prelude.{ℕ, ◌+◌, ◌-◌, ◌*◌, ◌^◌, leb, Bool, not, List, length, if◌then◌else◌}
use Rattle.std.specs.List.{range_with_len}
use Rattle.chain_theory.specs.Specification.{input}
use Rattle.tt_core.specs.Words.{Words}
use Rattle.clause_core.specs.declared.raw.RawLit.{RawLit}
use Rattle.clause_core.specs.declared.raw.RawLit.TheVariants.{Fixed, Var}
use Rattle.enc_theory.specs.declared.data.Dimensions.{Dimensions}

-- the sizes of the formula for the tables with r steps
abbrev pub sizes_of : Words → ℕ → Dimensions
sizes_of w r = record { n = w.n; r = r; m = length w.on }

-- the places of the steps, the rows, and the numbers of the outputs
abbrev pub places : Dimensions → List ℕ
places z = range_with_len (z.n + 1) z.r

abbrev pub rows : Dimensions → List ℕ
rows z = range_with_len 0 (2 ^ z.n)

abbrev pub outputs : Dimensions → List ℕ
outputs z = range_with_len 1 z.m

-- Step i has the value 1 on row t. Numbered from 1: all rows of the first step, then those of the next.
-- Example: with 2 inputs it is variable 1 for step 3 on row 0, and variable 5 for step 4 on row 0.
unfoldable pub x_var : Dimensions → ℕ → ℕ → ℕ
x_var z i t = (i - (z.n + 1)) * 2 ^ z.n + t + 1

-- Step i drives output h. After the variables of values: all steps for the first output, then for the next.
unfoldable pub g_var : Dimensions → ℕ → ℕ → ℕ
g_var z h i = z.r * 2 ^ z.n + (h - 1) * z.r + (i - z.n)

-- the first variable of operators
abbrev pub f_first : Dimensions → ℕ
f_first z = z.r * 2 ^ z.n + z.m * z.r + 1

-- the number with these two bits
abbrev pub bits_word : Bool → Bool → ℕ
bits_word b c = 2 * (if b then 1 else 0) + (if c then 1 else 0)

-- The operator of step i has the value 1 at (b, c). After those of outputs: four for each step, at 00, 01, 10
-- and 11.
unfoldable pub f_var : Dimensions → ℕ → Bool → Bool → ℕ
f_var z i b c = f_first z + 4 * (i - (z.n + 1)) + bits_word b c

-- the first selection variable, after those of operators
unfoldable pub s_first : Dimensions → ℕ
s_first z = f_first z + 4 * z.r

-- Place j has the given bit on row t. For an input this is true or false; for a step it is a literal.
-- Example: with 2 inputs, "place 1 has the bit 1 on row 2" is true, so a clause with it is a tautology.
unfoldable pub x_is : Dimensions → ℕ → ℕ → Bool → RawLit
x_is z j t bit = if leb j z.n then Fixed (if input z.n t j then bit else not bit) else Var (x_var z j t) bit
