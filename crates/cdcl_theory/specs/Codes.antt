-- Tables with an entry for each literal.
use Rattle.std.specs.Prelude.{ℕ, if◌then◌else◌, ℤ, Bool, false, not, ◌&&◌, List, slice_index_or}
use Rattle.std.specs.Ordering.{int_eq}
pub use Rattle.cnf_core.specs.Codes.{code_of}

-- a table of numbers, as a function
unfoldable pub position_in : List ℕ → ℤ → ℕ
position_in table l = slice_index_or table (code_of l) 0

-- the same function except at one literal
abbrev pub with_position : (ℤ → ℕ) → ℤ → ℕ → ℤ → ℕ
with_position positions l p m = if int_eq m l then p else positions m

-- a table of marks, as a set of literals
unfoldable pub marked_in : List Bool → ℤ → Bool
marked_in marks l = slice_index_or marks (code_of l) false

-- a set without one of its literals
abbrev pub without_literal : (ℤ → Bool) → ℤ → ℤ → Bool
without_literal set l m = not (int_eq m l) && set m
