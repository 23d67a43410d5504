-- The limit of the enumeration of chains.
use Rattle.std.specs.Prelude.{ℕ}

-- the most steps of an enumerated chain; longer ones are left to the solver
abbrev pub most_enumerated_steps : ℕ
most_enumerated_steps = 7
