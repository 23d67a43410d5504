-- The limits of tables and chains that are read, written or searched for. What chains mean has none.
use Rattle.std.specs.Prelude.{ℕ}

-- the most inputs of tables: the 2 ^ 6 rows are the bits of one word
abbrev pub most_inputs : ℕ
most_inputs = 6

-- the most outputs of tables, which bounds the clauses of a formula
abbrev pub most_outputs : ℕ
most_outputs = 8

-- the most steps of a chain, which bounds a formula: at most 16,000 pairs of operands
abbrev pub most_steps : ℕ
most_steps = 16
