-- How a named output ends: it holds a whole answer, or what it held before.
use Rattle.std.specs.Prelude.{◌≡◌, ◌⊎◌, ℕ, List, Bool, true, false, Option}
use Rattle.frame_core.specs.declared.status.Status.{Status}
use Rattle.frame_core.specs.declared.status.Status.TheVariants as statuses
use Rattle.frame_core.specs.Outside.{PortState}
use Rattle.file_io.specs.declared.calls.Call.TheVariants.{Keep}
use Rattle.file_io.specs.Names.{IsEmpty, Begins}
use Rattle.file_io.specs.Files.{Files, IsUnchanged, IsReplaced}
use Rattle.file_io.specs.Failing.{IsFailed}

-- the statuses that answers have; `Refused` is also that of some faults, which write nothing
abbrev pub is_answer_status : Status → Bool
is_answer_status statuses.Done = true
is_answer_status statuses.Undecided = true
is_answer_status statuses.Refused = true
is_answer_status s = false

-- The work ended with the status of an answer and wrote something, which the name holds now.
pub record IsKept (name : List ℕ) (ended : Status) (written : Option (List ℕ)) (files : Files)
    (note : PortState × PortState) (status : Status) : Type 0 where
  pub answer : is_answer_status ended ≡ true
  pub begun : Begins written true
  pub kept : IsReplaced name written files.0 files.1
  pub on_note : note.1 ≡ note.0
  pub status_is : status ≡ ended

-- The work has no answer, or wrote nothing: each name holds what it held.
pub record IsDiscarded (ended : Status) (written : Option (List ℕ)) (files : Files)
    (note : PortState × PortState) (status : Status) : Type 0 where
  pub none : (is_answer_status ended ≡ false) ⊎ IsEmpty written
  pub unchanged : IsUnchanged files.0 files.1
  pub on_note : note.1 ≡ note.0
  pub status_is : status ≡ ended

-- The draft of an answer couldn't be kept.
pub record IsLost (name : List ℕ) (ended : Status) (files : Files) (note : PortState × PortState) (status : Status)
    : Type 0 where
  pub answer : is_answer_status ended ≡ true
  pub failed : IsFailed Keep name files note status

-- `ended` is the status that the work ended with, and `written` what it wrote.
abbrev pub Settles : List ℕ → Status → Option (List ℕ) → Files → PortState × PortState → Status → Type 0
Settles name ended written files note status =
    IsKept name ended written files note status ⊎
    (IsDiscarded ended written files note status ⊎ IsLost name ended files note status)
