-- The lines of one subproblem: its name, how its log ends, the log, and the line `done`; and the first fault in
-- them. These definitions don't depend on the subproblem's place in a text, nor on what may follow it.
use Rattle.std.specs.Prelude.{ℕ, zero, suc, ◌+◌, Bool, true, false, not, ◌&&◌, ◌||◌, nat_le, if◌then◌else◌, List}
use Rattle.std.specs.Prelude.{length, codes, Option, Some, None, Result, Ok, Err, ℤ}
use Rattle.std.specs.List.{list_all, list_any}
use Rattle.std.specs.Str.{bytes_eq}
use Rattle.text_core.specs.Lines.{Line}
use Rattle.sat_theory.specs.Formula.{Formula}
use Rattle.sat_theory.specs.Line as theory
use Rattle.sat_theory.specs.State.{State, start}
use Rattle.sat_theory.specs.Holding.{among}
use Rattle.sat_theory.specs.Log as logs
use Rattle.lrat_text.specs.Reading.{line_in}
use Rattle.lrat_text.specs.declared.error.LineError.{LineError}
use Rattle.lrat_check.specs.Checked.{is_empty, adds_empty}
use Rattle.lrat_check.specs.Judging.{line_fault}
use Rattle.lrat_check.specs.declared.error.CheckError.{CheckError}
use Rattle.cert_theory.specs.declared.data.LogEnd.{LogEnd}
use Rattle.cert_theory.specs.declared.data.LogEnd.TheVariants.{Refuted, Open}
use Rattle.cert_theory.specs.declared.data.SubproblemError.{SubproblemError}
use Rattle.cert_theory.specs.declared.data.SubproblemError.TheVariants.{Syntax, StepRefused, NotNew, NotRefuted}
use Rattle.cert_theory.specs.declared.data.SubproblemError.TheVariants.{TooShort, EmptyClauseDerived}
use Rattle.cert_theory.specs.Spelling.{fence_text, done_text}
use Rattle.cert_theory.specs.Gives.{◌>>=◌}

-- whether a line is this text, with its LF
abbrev pub is_line : List ℕ → Line → Bool
is_line text l = l.ended && bytes_eq l.text text

-- ---- the name

-- The name that is due; `follows` says whether the line could be right if the subproblem were absent.
unfoldable pub name_in : Bool → List ℕ → Line → Result Unit SubproblemError
name_in follows sizes l = if is_line (fence_text sizes) l then Ok tt
    else (if follows then Err NotRefuted else Err Syntax)

-- ---- how the log ends, by its first line

unfoldable pub ended_in : Line → Option LogEnd
ended_in l = if is_line (codes "refuted") l then Some Refuted
    else (if is_line (codes "open") l then Some Open else None)

-- ---- subsumption

-- whether a live clause subsumes the literals
abbrev pub is_within : List ℤ → Option (List ℤ) → Bool
is_within lits None = false
is_within lits (Some clause) = list_all (among lits) clause

-- whether no clause with a smaller id subsumes the literals
unfoldable pub is_unsubsumed_below : ℕ → (ℕ → Option (List ℤ)) → List ℤ → Bool
is_unsubsumed_below zero live lits = true
is_unsubsumed_below (suc id) live lits = not (is_within lits (live id)) && is_unsubsumed_below id live lits

-- whether an addition isn't subsumed by a live clause; no live clause has an id above the greatest
abbrev pub is_fresh : State → theory.Line → Bool
is_fresh s (theory.Add id lits hints) = is_unsubsumed_below (s.greatest + 1) s.live lits
is_fresh s (theory.Delete id ids) = true

-- ---- the lines of the log

-- whether the formula or the log contains the empty clause
unfoldable pub has_empty : Formula → List theory.Line → Bool
has_empty f log = list_any is_empty f.clauses || list_any adds_empty log

-- the state after a log
abbrev pub state_after : Formula → List theory.Line → State
state_after f log = logs.after (start f) log

abbrev pub or_misspelled : Result theory.Line LineError → Result theory.Line SubproblemError
or_misspelled (Ok line) = Ok line
or_misspelled (Err e) = Err Syntax

-- the LRAT line that a text spells
unfoldable pub spelled_in : Line → Result theory.Line SubproblemError
spelled_in l = if l.ended then or_misspelled (line_in l.text) else Err Syntax

abbrev pub refused : Option CheckError → theory.Line → Result theory.Line SubproblemError
refused None line = Ok line
refused (Some e) line = Err (StepRefused e)

-- a log that leaves its subproblem open may add no subsumed clause
abbrev pub or_not_new : LogEnd → State → theory.Line → Result theory.Line SubproblemError
or_not_new Refuted s line = Ok line
or_not_new Open s line = if is_fresh s line then Ok line else Err NotNew

-- one more line of a log: it can be parsed, it holds, and in an open log it adds no subsumed clause
unfoldable pub logged_in : Formula → LogEnd → List theory.Line → Line → Result theory.Line SubproblemError
logged_in f ended log l = do
  line ← spelled_in l
  held ← refused (line_fault (state_after f log) line) line
  or_not_new ended (state_after f log) held

-- ---- the end of the log

-- checks at the end: whether there is an empty clause, and whether there are enough additions
abbrev pub closed : Bool → Bool → LogEnd → Result Unit SubproblemError
closed empty enough Refuted = if empty then Ok tt else Err NotRefuted
closed empty enough Open = if empty then Err EmptyClauseDerived else (if enough then Ok tt else Err TooShort)

-- the line `done`; a log that leaves its subproblem open needs at least `conflicts` additions
unfoldable pub done_in : Formula → ℕ → LogEnd → List theory.Line → Result Unit SubproblemError
done_in f conflicts ended log = closed (has_empty f log) (nat_le conflicts (length (logs.added_ids log))) ended

-- One more line: a line of the log, or None where it is the log's end.
unfoldable pub subproblem_in : Formula → ℕ → LogEnd → List theory.Line → Line →
    Result (Option theory.Line) SubproblemError
subproblem_in f conflicts ended log l =
    if is_line done_text l
    then (done_in f conflicts ended log >>= λ done. Ok None)
    else (logged_in f ended log l >>= λ line. Ok (Some line))
