-- What a run does that compares two texts, which are never joined.
use Rattle.std.specs.Prelude.{◌≡◌, ◌⊎◌, ℕ, ◌<◌, ◌≤◌, List, [], ◌∷◌, length, Option, Some, None, codes}
use Rattle.port_io.specs.Faults.{Rose}
use Rattle.port_io.specs.declared.reading.ReadError.{ReadError}
use Rattle.port_io.specs.declared.reading.ReadError.TheVariants.{ReadFault, TooLong, Memory}
use Rattle.net_theory.specs.Limits.{most_of_netlist}
use Rattle.frame_core.specs.declared.status.Status.{Status}
use Rattle.frame_core.specs.declared.status.Status.TheVariants as statuses
use Rattle.frame_core.specs.Outside.{PortState, Writes}
use Rattle.frame_core.specs.Reported.{Field, Word, error_line, memory}
use Rattle.frame_core.specs.Run.{IsWhole, IsReadToEnd}
use Rattle.file_io.specs.Names.{Shows}
use Rattle.file_io.specs.Files.{FilesState, Files, IsUnchanged}
use Rattle.file_io.specs.Served.{Pass, IsApart, IsUnread, IsRead}

-- ---- the first text

-- All bytes of the source, at most as many as are read: it is at its end, and no call failed.
pub record IsTextRead (source : Pass) (text : List ℕ) : Type 0 where
  pub whole : IsWhole source.0.bytes text
  pub within : length text ≤ most_of_netlist
  pub to_end : IsReadToEnd source.0 source.1

-- What a failed read says of the source: a call failed; it has more bytes than are read.
abbrev pub HasCause : Pass → ReadError → Type 0
HasCause source ReadFault = Rose source.0.faults source.1.faults
HasCause source TooLong = (input : List ℕ) → source.0.bytes ≡ Some input → most_of_netlist < length input
HasCause source Memory = Unit {0}

-- the line and the status of a failed read of the first text
unfoldable pub first_line : ReadError → List Field
first_line ReadFault = Word (codes "First") ∷ Word (codes "ReadFault") ∷ []
first_line TooLong = Word (codes "First") ∷ Word (codes "TooLong") ∷ []
first_line Memory = memory

abbrev pub first_status : ReadError → Status
first_status ReadFault = statuses.ReadFault
first_status TooLong = statuses.Limit
first_status Memory = statuses.Memory

-- The read failed, which is reported.
pub record IsTextRefused (source note : Pass) (status : Status) : Type 0 where
  pub error : ReadError
  pub cause : HasCause source error
  pub on_note : Writes note.0 note.1 (error_line (first_line error))
  pub status_is : status ≡ first_status error

-- ---- both

-- what a comparison of a text with that of a source does
abbrev pub Compares : Type 1
Compares = List ℕ → Pass → Pass → Pass → Status → Type 0

-- The first text was refused, and nothing was written.
pub record IsFirstRefused (input : Pass) (files : Files) (out note : Pass) (status : Status) : Type 0 where
  pub refused : IsTextRefused input note status
  pub unchanged : IsUnchanged files.0 files.1
  pub on_out : out.1 ≡ out.0

-- The first text was read, and compared with the second, which was read from its own input.
pub record IsFirstCompared (second : Option (List ℕ)) (compares : Compares) (files : Files)
    (input source out note : Pass) (status : Status) : Type 0 where
  pub text : List ℕ
  pub read : IsTextRead input text
  pub rest : IsRead second (IsApart (compares text)) files source out note status

-- One of the two; where the first was refused, the source of the second is as before.
abbrev pub IsFirstDone : Option (List ℕ) → Compares → Files → Pass → Pass → Pass → Pass → Status → Type 0
IsFirstDone second compares files input source out note status =
    (IsFirstRefused input files out note status × (source.1 ≡ source.0)) ⊎
    IsFirstCompared second compares files input source out note status

-- The first text is standard input's, up to a state between; `-` as the second is what is left, which is nothing.
pub record IsFirstStandard (second : Option (List ℕ)) (compares : Compares) (files : Files)
    (source out note : Pass) (status : Status) : Type 0 where
  pub between : PortState
  pub does : IsFirstDone second compares files (source.0, between) (between, source.1) out note status

-- The first text is that of a file.
pub record IsFirstOpened (name : List ℕ) (second : Option (List ℕ)) (compares : Compares) (files : Files)
    (source out note : Pass) (status : Status) : Type 0 where
  pub opened : FilesState
  pub input : Pass
  pub unchanged : IsUnchanged files.0 opened
  pub shows : Shows (files.0.holds name) input.0.bytes
  pub does : IsFirstDone second compares (opened, files.1) input source out note status

-- The first text couldn't be opened.
pub record IsFirstUnread (name : List ℕ) (files : Files) (source out note : Pass) (status : Status) : Type 0 where
  pub unread : IsUnread name files out note status
  pub on_source : source.1 ≡ source.0

abbrev pub IsNamedPair : List ℕ → Option (List ℕ) → Compares → Files → Pass → Pass → Pass → Status → Type 0
IsNamedPair name second compares files source out note status =
    IsFirstUnread name files source out note status ⊎
    IsFirstOpened name second compares files source out note status

abbrev pub IsPaired : Option (List ℕ) → Option (List ℕ) → Compares → Files → Pass → Pass → Pass → Status → Type 0
IsPaired None second compares files source out note status =
    IsFirstStandard second compares files source out note status
IsPaired (Some name) second compares files source out note status =
    IsNamedPair name second compares files source out note status
