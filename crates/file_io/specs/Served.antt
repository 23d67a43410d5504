-- What a run does that reads and writes files by their names.
use Rattle.std.specs.Prelude.{◌≡◌, ◌⊎◌, ℕ, List, Option, None, Some}
use Rattle.frame_core.specs.declared.status.Status.{Status}
use Rattle.frame_core.specs.Outside.{PortState}
use Rattle.file_io.specs.declared.calls.Call.TheVariants.{Open, Create}
use Rattle.file_io.specs.Names.{Shows, Begun}
use Rattle.file_io.specs.Files.{FilesState, Files, IsUnchanged}
use Rattle.file_io.specs.Failing.{IsFailed}
use Rattle.file_io.specs.Settling.{Settles}

-- a port before and after
abbrev pub Pass : Type 0
Pass = PortState × PortState

-- what work does with files, its source, its output and the notes, up to its status
abbrev pub Does : Type 1
Does = Files → Pass → Pass → Pass → Status → Type 0

-- Work without files: each name holds what it held, and no call failed.
pub record IsApart (does : Pass → Pass → Pass → Status → Type 0) (files : Files) (source out note : Pass)
    (status : Status) : Type 0 where
  pub work : does source out note status
  pub unchanged : IsUnchanged files.0 files.1

-- ---- the output

-- The output couldn't be created, and nothing was read.
pub record IsUncreated (name : List ℕ) (files : Files) (source note : Pass) (status : Status) : Type 0 where
  pub failed : IsFailed Create name files note status
  pub on_source : source.1 ≡ source.0

-- A draft was created; then the work wrote to it; then it took the name's place or went.
pub record IsDrafted (name : List ℕ) (does : Does) (files : Files) (source note : Pass) (status : Status)
    : Type 0 where
  pub created : FilesState
  pub worked : FilesState
  pub draft : Pass
  pub between : PortState
  pub ended : Status
  pub unchanged : IsUnchanged files.0 created
  pub empty : Begun (files.0.holds name) draft.0.bytes
  pub work : does (created, worked) source draft (note.0, between) ended
  pub settles : Settles name ended draft.1.bytes (worked, files.1) (between, note.1) status

abbrev pub IsWritten : List ℕ → Does → Files → Pass → Pass → Status → Type 0
IsWritten name does files source note status =
    IsUncreated name files source note status ⊎ IsDrafted name does files source note status

-- The work wrote to the output that was named, or to standard output.
abbrev pub IsDelivered : Option (List ℕ) → Does → Files → Pass → Pass → Pass → Status → Type 0
IsDelivered None does files source out note status = does files source out note status
IsDelivered (Some name) does files source out note status =
    (out.1 ≡ out.0) × IsWritten name does files source note status

-- ---- the input

-- The file couldn't be opened.
pub record IsUnread (name : List ℕ) (files : Files) (out note : Pass) (status : Status) : Type 0 where
  pub failed : IsFailed Open name files note status
  pub on_out : out.1 ≡ out.0

-- The file was opened, and the work read it.
pub record IsOpened (name : List ℕ) (does : Does) (files : Files) (out note : Pass) (status : Status) : Type 0 where
  pub opened : FilesState
  pub input : Pass
  pub unchanged : IsUnchanged files.0 opened
  pub shows : Shows (files.0.holds name) input.0.bytes
  pub work : does (opened, files.1) input out note status

-- The work read the input that was named, or standard input.
abbrev pub IsRead : Option (List ℕ) → Does → Files → Pass → Pass → Pass → Status → Type 0
IsRead None does files source out note status = does files source out note status
IsRead (Some name) does files source out note status =
    (source.1 ≡ source.0) × (IsUnread name files out note status ⊎ IsOpened name does files out note status)
