-- The limits of AIGER files. A circuit of the most sources and gates can be written.
use Rattle.std.specs.Prelude.{ℕ}

-- the most variables of a file
abbrev pub most_variables : ℕ
most_variables = 2097152

-- the most inputs and latches
abbrev pub most_sources : ℕ
most_sources = 1048576

-- the most outputs
abbrev pub most_outputs : ℕ
most_outputs = 1048576

-- the greatest number of a header and of a symbol's position: nine digits
abbrev pub most_number : ℕ
most_number = 999999999
