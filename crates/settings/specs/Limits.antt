-- The limits and defaults of settings.
use Rattle.std.specs.Prelude.{ℕ}

-- the conflict limit of a formula where none is asked for
abbrev pub default_conflicts : ℕ
default_conflicts = 100000

-- the most gates of a window: each may be an output, and tables have at most 8 outputs
abbrev pub most_gates_of_window : ℕ
most_gates_of_window = 8

-- the most rounds over all windows: each that changes something removes a gate, and a netlist has no more gates
abbrev pub most_rounds : ℕ
most_rounds = 100000

-- the most effort: a factor for the work of the walks
abbrev pub most_effort : ℕ
most_effort = 1000

-- the effort of exact synthesis where none is asked for
abbrev pub default_effort : ℕ
default_effort = 1

-- the greatest seed of random choices
abbrev pub most_seed : ℕ
most_seed = 1000000

-- the most blocks of a generated netlist, so that it is within the limits of netlists
abbrev pub most_blocks : ℕ
most_blocks = 10000
