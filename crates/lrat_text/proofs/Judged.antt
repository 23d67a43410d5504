-- Lemmas on a result that is the grammar's.
use Rattle.std.proofs.Common.{◌≡◌, Result, Ok, Err, IfOk}
use Rattle.sat_theory.specs.Line as theory
use Rattle.lrat_text.specs.declared.line.Line.{Line}
use Rattle.lrat_text.specs.declared.error.LineError.{LineError}
use Rattle.lrat_text.specs.Values.{line_value}
use Rattle.lrat_text.specs.Gives.{Gives}

-- what holds for the line that the grammar gives holds for an Ok result
pub if_given : (P : theory.Line → Type 0) (r : Result Line LineError) (read : Result theory.Line LineError) → Gives r read → ((l : theory.Line) → read ≡ Ok l → P l) → IfOk r (λ l. P (line_value l))
if_given P (Ok line) read gives each = each (line_value line) gives
if_given P (Err e) read gives each = tt

-- the result, if the grammar gives a line
pub gives_line : (r : Result Line LineError) (read : Result theory.Line LineError) (l : theory.Line) → Gives r read → read ≡ Ok l → Gives r (Ok l)
gives_line r read l gives e = rw (← e) gives
