-- A run that ends with a call on a file that failed.
use Rattle.std.specs.Prelude.{◌≡◌, ℕ, List}
use Rattle.frame_core.specs.declared.status.Status.{Status}
use Rattle.frame_core.specs.Outside.{PortState, Writes}
use Rattle.file_io.specs.declared.calls.Call.{Call}
use Rattle.file_io.specs.FaultLine.{fault_line, fault_status}
use Rattle.file_io.specs.Files.{Files, Fails}

-- The call failed, which is reported with the name and the system's reason.
pub record IsFailed (call : Call) (name : List ℕ) (files : Files) (note : PortState × PortState) (status : Status)
    : Type 0 where
  pub fails : Fails call files.0 files.1
  pub reason : List ℕ
  pub on_note : Writes note.0 note.1 (fault_line call name reason)
  pub status_is : status ≡ fault_status call
