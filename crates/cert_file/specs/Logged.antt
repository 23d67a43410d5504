-- What the reader of a log does with a line.
use Rattle.std.specs.Prelude.{◌≡◌, ◌↔◌, ℕ, ◌+◌, ◌-◌, Bool, true, List, [], ◌∷◌, ◌++◌, length, Some, None, Result, Ok, Err}
use Rattle.text_core.specs.Lines.{Line}
use Rattle.sat_theory.specs.Formula.{Formula}
use Rattle.sat_theory.specs.Line as theory
use Rattle.sat_theory.specs.Log.{added_ids, IsUnsubsumed}
use Rattle.lrat_check.specs.Live.{live_at}
use Rattle.lrat_check.specs.Checked.{Checked, HasAccepted}
use Rattle.lrat_check.specs.declared.error.CheckError.{CheckError}
use Rattle.lrat_check.specs.declared.error.CheckError.TheVariants as check_errors
use Rattle.cert_theory.specs.declared.data.LogEnd.{LogEnd}
use Rattle.cert_theory.specs.declared.data.LogEnd.TheVariants.{Refuted, Open}
use Rattle.cert_theory.specs.declared.data.SubproblemError.{SubproblemError}
use Rattle.cert_theory.specs.declared.data.SubproblemError.TheVariants as errors
use Rattle.cert_theory.specs.SubproblemLines.{logged_in, subproblem_in}
use Rattle.cert_theory.specs.Gives.{SubproblemFails}
use Rattle.cert_file.specs.declared.subproblem.SubproblemReader.{SubproblemReader}
use Rattle.cert_file.specs.declared.subproblem.SubproblemStep.{SubproblemStep}
use Rattle.cert_file.specs.declared.subproblem.SubproblemStep.TheVariants.{More, Done}

-- the flag says whether an addition isn't subsumed by a live clause
abbrev pub is_unsubsumed_by : Checked → theory.Line → Bool → Type 0
is_unsubsumed_by checker (theory.Add id lits hints) test = (test ≡ true) ↔ IsUnsubsumed (live_at checker.live) lits
is_unsubsumed_by checker (theory.Delete id ids) test = test ≡ true

-- and whether the log may have the line next
abbrev pub MayAdd : Checked → LogEnd → theory.Line → Bool → Type 0
MayAdd checker Refuted line test = test ≡ true
MayAdd checker Open line test = is_unsubsumed_by checker line test

-- a fault of the checker as one of the log
abbrev pub IsRefusal : CheckError → SubproblemError → Type 0
IsRefusal check_errors.Memory e = e ≡ errors.Memory
IsRefusal fault e = e ≡ errors.StepRefused fault

-- how many clauses a line adds
abbrev pub added_by : theory.Line → ℕ
added_by (theory.Add id lits hints) = 1
added_by (theory.Delete id ids) = 0

-- a line was accepted by the checker, after those before
pub record IsTaken (f : Formula) (ended : LogEnd) (log : List theory.Line) (l : Line) (checker : Checked) (added : ℕ) : Type 0 where
  pub line : theory.Line
  pub read : logged_in f ended log l ≡ Ok line
  pub accepted : HasAccepted f (log ++ line ∷ []) checker
  pub count : length (added_ids (log ++ line ∷ [])) ≡ length (added_ids log) + added

-- a line was accepted, or it has a fault
abbrev pub IsLogged : Formula → LogEnd → List theory.Line → Line → Checked → Result ℕ SubproblemError → Type 0
IsLogged f ended log l checker (Ok added) = IsTaken f ended log l checker added
IsLogged f ended log l checker (Err e) = SubproblemFails e (logged_in f ended log l)

-- ---- the reader of a subproblem

-- A reader has read these lines of a log over a formula: its checker has accepted them, and it knows how many
-- of the `conflicts` additions of an open log are missing.
pub record IsReading (f : Formula) (conflicts : ℕ) (log : List theory.Line) (reader : SubproblemReader) : Type 0 where
  pub accepted : HasAccepted f log reader.checker
  pub missing : reader.missing ≡ conflicts - length (added_ids log)

-- it has read one more line
pub record HasMore (f : Formula) (conflicts : ℕ) (ended : LogEnd) (log : List theory.Line) (l : Line) (reader : SubproblemReader) : Type 0 where
  pub line : theory.Line
  pub read : subproblem_in f conflicts ended log l ≡ Ok (Some line)
  pub reading : IsReading f conflicts (log ++ line ∷ []) reader
  pub same_end : reader.ended ≡ ended

-- one more line was read, the log has ended without a fault, or the line has a fault
abbrev pub IsFed : Formula → ℕ → LogEnd → List theory.Line → Line → Result SubproblemStep SubproblemError → Type 0
IsFed f conflicts ended log l (Ok (More reader)) = HasMore f conflicts ended log l reader
IsFed f conflicts ended log l (Ok Done) = subproblem_in f conflicts ended log l ≡ Ok None
IsFed f conflicts ended log l (Err e) = SubproblemFails e (subproblem_in f conflicts ended log l)
