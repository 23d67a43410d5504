-- Tables with nothing after them.
use Rattle.std.specs.Prelude.{◌+◌, List, [], ◌∷◌, length, Result, Ok, Err}
use Rattle.text_core.specs.Lines.{Line}
use Rattle.tt_core.specs.declared.error.SpecError.{SpecError}
use Rattle.tt_core.specs.declared.error.SpecError.TheVariants.{BadRow}
use Rattle.tt_core.specs.Words.{Words}
use Rattle.tt_core.specs.Tables.{Read, tables_of}

-- a line after the tables is a bad row
abbrev pub nothing_after : Words → List Line → Result Words SpecError
nothing_after w [] = Ok w
nothing_after w (l ∷ ls) = Err (BadRow (2 + length w.on))

abbrev pub words_alone : Result Read SpecError → Result Words SpecError
words_alone (Ok read) = nothing_after read.words read.rest
words_alone (Err fault) = Err fault

-- the tables that lines spell, or the first fault
-- Example: the lines `inputs 1`, `01`, `end` have the fault BadRow 3.
abbrev pub tables_alone : List Line → Result Words SpecError
tables_alone ls = words_alone (tables_of ls)
