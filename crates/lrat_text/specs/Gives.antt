-- The result of a reader is what the grammar says.
use Rattle.std.specs.Prelude.{◌≡◌, Result, Ok, Err}
use Rattle.sat_theory.specs.Line as theory
use Rattle.lrat_text.specs.declared.line.Line.{Line}
use Rattle.lrat_text.specs.declared.error.LineError.{LineError}
use Rattle.lrat_text.specs.declared.error.LineError.TheVariants.{Memory}
use Rattle.lrat_text.specs.Values.{line_value}

-- an error is the grammar's, or memory ran out, which may happen at any time
abbrev pub Fails : LineError → Result theory.Line LineError → Type 0
Fails Memory read = Unit {0}
Fails e read = read ≡ Err e

abbrev pub Gives : Result Line LineError → Result theory.Line LineError → Type 0
Gives (Ok line) read = read ≡ Ok (line_value line)
Gives (Err e) read = Fails e read
