-- How the draft of a log ends.
use Rattle.std.specs.Prelude.{◌≡◌, ℕ, List, Bool, true, false, Option, refl}
use Rattle.std.proofs.Common.{inl, inr}
use Rattle.std.proofs.lemmas.Grind.{common_steps}
use Rattle.frame_core.specs.declared.status.Status.{Status}
use Rattle.frame_core.specs.Outside.{PortState, Writes}
use Rattle.file_io.specs.declared.calls.Call.TheVariants.{Keep}
use Rattle.file_io.specs.FaultLine.{fault_line, fault_status}
use Rattle.file_io.specs.Files.{FilesState, IsUnchanged, Fails, IsReplaced}
use Rattle.file_io.specs.Names.{Begins}
use Rattle.front_formula.specs.LogEnds.{is_done, no_log_line, IsTold, EndsLog}

pub log_dropped : (name : List ℕ) (ended : Status) (written : Option (List ℕ)) (old new : FilesState) (note : PortState) →
    is_done ended ≡ false → IsUnchanged old new → EndsLog name ended written (old, new) (note, note) ended
log_dropped name ended written old new note not unchanged = inr (inl (record {
  none = not;
  unchanged = unchanged;
  on_note = refl;
  status_is = refl;
}))

pub told_nothing : (has_bytes : Bool) (note : PortState) → has_bytes ≡ true → IsTold has_bytes (note, note)
told_nothing true note is = refl
told_nothing false note is = absurd cc

pub told_line : (has_bytes : Bool) (note note' : PortState) → has_bytes ≡ false → Writes note note' no_log_line →
    IsTold has_bytes (note, note')
told_line true note note' is writes = absurd cc
told_line false note note' is writes = writes

pub log_kept : (name : List ℕ) (ended : Status) (written : Option (List ℕ)) (has_bytes : Bool) (old new : FilesState)
    (note note' : PortState) → is_done ended ≡ true → Begins written has_bytes → IsReplaced name written old new →
    IsTold has_bytes (note, note') → EndsLog name ended written (old, new) (note, note') ended
log_kept name ended written has_bytes old new note note' is begins replaced told = inl (record {
  done = is;
  kept = replaced;
  has_bytes = has_bytes;
  begins = begins;
  told = told;
  status_is = refl;
})

pub log_lost : (name : List ℕ) (ended : Status) (written : Option (List ℕ)) (old new : FilesState)
    (note note' : PortState) (reason : List ℕ) (status : Status) → is_done ended ≡ true → Fails Keep old new →
    Writes note note' (fault_line Keep name reason) → status ≡ fault_status Keep →
    EndsLog name ended written (old, new) (note, note') status
log_lost name ended written old new note note' reason status is fails writes status_is = inr (inr (record {
  done = is;
  failed = record { fails = fails; reason = reason; on_note = writes; status_is = status_is };
}))

pub ruleset telling = (common_steps, told_nothing, told_line)

pub ruleset log_ends = (common_steps, log_dropped, log_kept, log_lost)
