-- What a run does whose answer comes with a file that is written before it.
use Rattle.std.specs.Prelude.{◌≡◌, ◌⊎◌, ℕ, List, Option, None, Some}
use Rattle.frame_core.specs.declared.status.Status.{Status}
use Rattle.frame_core.specs.Outside.{PortState}
use Rattle.file_io.specs.Names.{Begun}
use Rattle.file_io.specs.Files.{FilesState, Files, IsUnchanged}
use Rattle.file_io.specs.Settling.{Settles}
use Rattle.file_io.specs.Served.{Pass, Does, IsUncreated}
use Rattle.front_formula.specs.Logged.{IsAfter}

-- A draft for the file was created; then it was written; then, if that was done, the answer went to the output; then the
-- draft took the name's place or went.
pub record AreBothWritten (name : List ℕ) (texts answers : Does) (files : Files) (source out note : Pass) (status : Status)
    : Type 0 where
  pub created : FilesState
  pub written : FilesState
  pub answered : FilesState
  pub draft : Pass
  pub middle : PortState
  pub between : PortState
  pub later : PortState
  pub first : Status
  pub ended : Status
  pub unchanged : IsUnchanged files.0 created
  pub empty : Begun (files.0.holds name) draft.0.bytes
  pub text : texts (created, written) (source.0, middle) draft (note.0, between) first
  pub answer : IsAfter first answers (written, answered) (middle, source.1) out (between, later) ended
  pub settles : Settles name ended draft.1.bytes (answered, files.1) (later, note.1) status

-- Without a name, there is no such file.
abbrev pub IsAccompanied : Option (List ℕ) → Does → Does → Files → Pass → Pass → Pass → Status → Type 0
IsAccompanied None texts answers files source out note status = answers files source out note status
IsAccompanied (Some name) texts answers files source out note status =
    (IsUncreated name files source note status × (out.1 ≡ out.0)) ⊎
    AreBothWritten name texts answers files source out note status
