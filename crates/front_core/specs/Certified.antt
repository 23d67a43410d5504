-- What a run does whose certificate goes to a file: the file gets the whole answer, and the output its own lines.
use Rattle.std.specs.Prelude.{◌≡◌, ◌⊎◌, ℕ, List, [], true, false, Option, None, Some}
use Rattle.frame_core.specs.declared.status.Status.{Status}
use Rattle.frame_core.specs.declared.status.Status.TheVariants as statuses
use Rattle.frame_core.specs.Outside.{PortState}
use Rattle.frame_core.specs.Run.{run_of}
use Rattle.frame_core.specs.Promise.{CommandPromise}
use Rattle.file_io.specs.Names.{Shows, IsEmpty, Begun, file_of}
use Rattle.file_io.specs.Files.{FilesState, Files, IsUnchanged}
use Rattle.file_io.specs.Settling.{is_answer_status, Settles}
use Rattle.file_io.specs.Served.{Pass, Does, IsUncreated, IsUnread}
use Rattle.shown_lines.specs.ShownReport.{shown_task}

-- The lines of an answer that is the source's were written, with all that a command promises.
abbrev pub ShowsLines : Pass → Pass → Pass → Status → Type 0
ShowsLines source out note status = CommandPromise shown_task (run_of [] source out note status)

-- the status after the lines were shown: that of the answer, or that of the failure
abbrev pub status_after : Status → Status → Status
status_after statuses.Done ended = ended
status_after shown ended = shown

-- There is no answer.
pub record IsUnshown (ended : Status) (written : Option (List ℕ)) (files : Files) (out note : Pass) (status : Status)
    : Type 0 where
  pub none : (is_answer_status ended ≡ false) ⊎ IsEmpty written
  pub unchanged : IsUnchanged files.0 files.1
  pub on_out : out.1 ≡ out.0
  pub on_note : note.1 ≡ note.0
  pub status_is : status ≡ ended

-- The answer was opened, and its lines were shown or that failed.
pub record AreShown (ended : Status) (written : Option (List ℕ)) (files : Files) (out note : Pass) (status : Status)
    : Type 0 where
  pub answer : is_answer_status ended ≡ true
  pub text : Pass
  pub shown : Status
  pub shows : Shows (file_of written) text.0.bytes
  pub lines : ShowsLines text out note shown
  pub unchanged : IsUnchanged files.0 files.1
  pub status_is : status ≡ status_after shown ended

-- `ended` is the status that the work ended with, and `written` what it wrote.
abbrev pub IsShown : List ℕ → Status → Option (List ℕ) → Files → Pass → Pass → Status → Type 0
IsShown name ended written files out note status =
    IsUnshown ended written files out note status ⊎
    (IsUnread name files out note status ⊎ AreShown ended written files out note status)

-- A draft was created; then the work wrote to it; then the lines of the answer were shown; then the draft took the name's
-- place or went.
pub record IsParted (name : List ℕ) (does : Does) (files : Files) (source out note : Pass) (status : Status)
    : Type 0 where
  pub created : FilesState
  pub worked : FilesState
  pub shown : FilesState
  pub draft : Pass
  pub between : PortState
  pub later : PortState
  pub ended : Status
  pub after : Status
  pub unchanged : IsUnchanged files.0 created
  pub empty : Begun (files.0.holds name) draft.0.bytes
  pub work : does (created, worked) source draft (note.0, between) ended
  pub lines : IsShown name ended draft.1.bytes (worked, shown) out (between, later) after
  pub settles : Settles name after draft.1.bytes (shown, files.1) (later, note.1) status

abbrev pub IsCertifiedBy : List ℕ → Does → Files → Pass → Pass → Pass → Status → Type 0
IsCertifiedBy name does files source out note status =
    (IsUncreated name files source note status × (out.1 ≡ out.0)) ⊎ IsParted name does files source out note status

-- Without a name, the output gets the whole answer.
abbrev pub IsCertified : Option (List ℕ) → Does → Files → Pass → Pass → Pass → Status → Type 0
IsCertified None does files source out note status = does files source out note status
IsCertified (Some name) does files source out note status = IsCertifiedBy name does files source out note status
