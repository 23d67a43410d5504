-- What a run does whose log goes to a file of its own.
use Rattle.std.specs.Prelude.{◌≡◌, ◌⊎◌, ℕ, List, Option, None, Some}
use Rattle.frame_core.specs.declared.status.Status.{Status}
use Rattle.frame_core.specs.declared.status.Status.TheVariants as statuses
use Rattle.frame_core.specs.Outside.{PortState}
use Rattle.file_io.specs.Names.{Begun}
use Rattle.file_io.specs.Files.{FilesState, Files, IsUnchanged}
use Rattle.file_io.specs.Served.{Pass, Does, IsUncreated}
use Rattle.front_formula.specs.LogEnds.{EndsLog}

-- Nothing is done after work that ended with this status.
pub record IsSkipped (ended : Status) (files : Files) (source out note : Pass) (status : Status) : Type 0 where
  pub unchanged : IsUnchanged files.0 files.1
  pub on_source : source.1 ≡ source.0
  pub on_out : out.1 ≡ out.0
  pub on_note : note.1 ≡ note.0
  pub status_is : status ≡ ended

-- The log is written if the work before it is done.
abbrev pub IsAfter : Status → Does → Files → Pass → Pass → Pass → Status → Type 0
IsAfter statuses.Done does files source out note status = does files source out note status
IsAfter ended does files source out note status = IsSkipped ended files source out note status

-- A draft for the log was created; then the answer was written to the output; then the log to the draft, which took the
-- name's place, even if the log is empty, or went.
pub record AreWritten (name : List ℕ) (answers logs : Does) (files : Files) (source out note : Pass) (status : Status)
    : Type 0 where
  pub created : FilesState
  pub answered : FilesState
  pub logged : FilesState
  pub draft : Pass
  pub middle : PortState
  pub between : PortState
  pub later : PortState
  pub first : Status
  pub ended : Status
  pub unchanged : IsUnchanged files.0 created
  pub empty : Begun (files.0.holds name) draft.0.bytes
  pub answer : answers (created, answered) (source.0, middle) out (note.0, between) first
  pub log : IsAfter first logs (answered, logged) (middle, source.1) draft (between, later) ended
  pub settles : EndsLog name ended draft.1.bytes (logged, files.1) (later, note.1) status

-- Without a name, there is no log.
abbrev pub IsLogged : Option (List ℕ) → Does → Does → Files → Pass → Pass → Pass → Status → Type 0
IsLogged None answers logs files source out note status = answers files source out note status
IsLogged (Some name) answers logs files source out note status =
    (IsUncreated name files source note status × (out.1 ≡ out.0)) ⊎
    AreWritten name answers logs files source out note status
