-- The files that a run sees: what each name holds, and how many calls on files have failed.
use Rattle.std.specs.Prelude.{◌≡◌, ◌≢◌, ℕ, List, Option}
use Rattle.port_io.specs.Faults.{Rose}
use Rattle.file_io.specs.declared.calls.Call.{Call}
use Rattle.file_io.specs.Names.{Names, SameNames, file_of}

-- how many calls of each kind have failed
abbrev pub Faults : Type 0
Faults = Call → ℕ

pub record FilesState : Type 0 where
  pub holds : Names
  pub faults : Faults

abbrev pub files_state : {T : Type 0} → (T → Names) → (T → Faults) → T → FilesState
files_state holds faults x = record { holds = holds x; faults = faults x }

-- the files before and after
abbrev pub Files : Type 0
Files = FilesState × FilesState

abbrev pub files_before_after : {T : Type 0} → (T → Names) → (T → Faults) → T → T → Files
files_before_after holds faults old new = (files_state holds faults old, files_state holds faults new)

-- No call failed.
abbrev pub AreFaultless : FilesState → FilesState → Type 0
AreFaultless old new = (call : Call) → new.faults call ≡ old.faults call

-- Each name holds what it held, and no call failed.
pub record IsUnchanged (old new : FilesState) : Type 0 where
  pub same : SameNames old.holds new.holds
  pub faultless : AreFaultless old new

-- A call of this kind failed, and none of another. Each name holds what it held.
pub record Fails (call : Call) (old new : FilesState) : Type 0 where
  pub same : SameNames old.holds new.holds
  pub rose : Rose (old.faults call) (new.faults call)
  pub others : (other : Call) → other ≢ call → new.faults other ≡ old.faults other

-- The name holds what was written, and each other name what it held. No call failed.
pub record IsReplaced (name : List ℕ) (written : Option (List ℕ)) (old new : FilesState) : Type 0 where
  pub here : new.holds name ≡ file_of written
  pub others : (other : List ℕ) → other ≢ name → new.holds other ≡ old.holds other
  pub faultless : AreFaultless old new
