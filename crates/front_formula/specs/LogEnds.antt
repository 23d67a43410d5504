-- How the file of a log ends: it holds the log, which may be empty, or what it held before.
use Rattle.std.specs.Prelude.{◌≡◌, ◌⊎◌, ℕ, List, Bool, true, false, Option, codes}
use Rattle.frame_core.specs.declared.status.Status.{Status}
use Rattle.frame_core.specs.declared.status.Status.TheVariants.{Done}
use Rattle.frame_core.specs.Outside.{Writes}
use Rattle.file_io.specs.declared.calls.Call.TheVariants.{Keep}
use Rattle.file_io.specs.Failing.{IsFailed}
use Rattle.file_io.specs.Files.{Files, IsUnchanged, IsReplaced}
use Rattle.file_io.specs.Names.{Begins}
use Rattle.file_io.specs.Served.{Pass}

abbrev pub is_done : Status → Bool
is_done Done = true
is_done status = false

unfoldable pub no_log_line : List ℕ
no_log_line = codes "note: this part has no log: its file is empty\n"

-- A log without a byte is told on the notes.
abbrev pub IsTold : Bool → Pass → Type 0
IsTold true note = note.1 ≡ note.0
IsTold false note = Writes note.0 note.1 no_log_line

-- The log was written, perhaps without a byte, and the name holds it now.
pub record IsLogKept (name : List ℕ) (ended : Status) (written : Option (List ℕ)) (files : Files) (note : Pass)
    (status : Status) : Type 0 where
  pub done : is_done ended ≡ true
  pub kept : IsReplaced name written files.0 files.1
  pub has_bytes : Bool
  pub begins : Begins written has_bytes
  pub told : IsTold has_bytes note
  pub status_is : status ≡ ended

-- No log was written: each name holds what it held.
pub record IsLogDropped (ended : Status) (files : Files) (note : Pass) (status : Status) : Type 0 where
  pub none : is_done ended ≡ false
  pub unchanged : IsUnchanged files.0 files.1
  pub on_note : note.1 ≡ note.0
  pub status_is : status ≡ ended

-- The log couldn't be kept.
pub record IsLogLost (name : List ℕ) (ended : Status) (files : Files) (note : Pass) (status : Status) : Type 0 where
  pub done : is_done ended ≡ true
  pub failed : IsFailed Keep name files note status

-- `ended` is the status that the work ended with, and `written` the log.
abbrev pub EndsLog : List ℕ → Status → Option (List ℕ) → Files → Pass → Status → Type 0
EndsLog name ended written files note status =
    IsLogKept name ended written files note status ⊎
    (IsLogDropped ended files note status ⊎ IsLogLost name ended files note status)
