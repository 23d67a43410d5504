-- The limits of netlists that are read, improved, compared or written. Nets as such have none.
use Rattle.std.specs.Prelude.{ℕ}

-- The most gates of a netlist, so that nodes and the variables and clauses of formulas on two netlists have numbers
-- of 32 bits.
abbrev pub most_gates : ℕ
most_gates = 1000000

-- the most gates of a netlist that is read, where no other limit is asked for
abbrev pub default_gates : ℕ
default_gates = 100000

-- the most inputs of a table, and operands of a gate of a `.bench` text, so that the literals of a table can be counted
abbrev pub most_table_inputs : ℕ
most_table_inputs = 256

-- the most cover lines (cubes) of a table, for the same reason
abbrev pub most_cubes : ℕ
most_cubes = 4096

-- the most bytes of a name or another word
abbrev pub most_name_bytes : ℕ
most_name_bytes = 1024

-- the most bytes of a line: the names of a table with the most inputs fit in one, each as long as names may be
abbrev pub most_line_bytes : ℕ
most_line_bytes = 1048576

-- the most bytes of a netlist that is read, 16 MiB, so that its names, sources and sinks can be counted
abbrev pub most_of_netlist : ℕ
most_of_netlist = 16777216

-- the most bytes of two netlists that are compared: 32 MiB, twice as many
abbrev pub most_of_two : ℕ
most_of_two = 33554432

-- The most leaves of a cone that is simulated on all rows: each signal then has 2 ^ 12 bits, 64 words. A net with as
-- many sources is simulated as a whole.
abbrev pub most_leaves : ℕ
most_leaves = 12
