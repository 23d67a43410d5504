-- Work over inputs and outputs that are named.
use Rattle.std.specs.Prelude.{◌≡◌, ◌⊎◌, ℕ, List, refl}
use Rattle.std.proofs.Common.{inl, inr}
use Rattle.std.proofs.lemmas.Grind.{common_steps}
use Rattle.frame_core.specs.declared.status.Status.{Status}
use Rattle.frame_core.specs.Outside.{PortState, Writes}
use Rattle.file_io.specs.declared.calls.Call.TheVariants.{Open, Create}
use Rattle.file_io.specs.FaultLine.{fault_line, fault_status}
use Rattle.file_io.specs.Names.{Shows, Begun}
use Rattle.file_io.specs.Files.{FilesState, IsUnchanged, Fails}
use Rattle.file_io.specs.Settling.{Settles}
use Rattle.file_io.specs.Served.{Pass, Does, IsWritten, IsOpened, IsUnread}

-- ---- the output

pub not_created : (name reason : List ℕ) (does : Does) (old new : FilesState) (source note note' : PortState)
    (status : Status) → Fails Create old new → Writes note note' (fault_line Create name reason) →
    status ≡ fault_status Create → IsWritten name does (old, new) (source, source) (note, note') status
not_created name reason does old new source note note' status fails writes is = inl (record {
  failed = record { fails = fails; reason = reason; on_note = writes; status_is = is };
  on_source = refl;
})

pub drafted : (name : List ℕ) (does : Does) (old created worked new : FilesState) (source : Pass)
    (draft draft' note between note' : PortState) (ended status : Status) →
    IsUnchanged old created → Begun (old.holds name) draft.bytes → does (created, worked) source (draft, draft') (note, between) ended →
    Settles name ended draft'.bytes (worked, new) (between, note') status →
    IsWritten name does (old, new) source (note, note') status
drafted name does old created worked new source draft draft' note between note' ended status unchanged empty work settles =
    inr (record {
      created = created;
      worked = worked;
      draft = (draft, draft');
      between = between;
      ended = ended;
      unchanged = unchanged;
      empty = empty;
      work = work;
      settles = settles;
    })

pub ruleset writing = (common_steps, not_created, drafted)

-- ---- the input

pub not_opened : (name reason : List ℕ) (does : Does) (old new : FilesState) (out note note' : PortState)
    (status : Status) → Fails Open old new → Writes note note' (fault_line Open name reason) →
    status ≡ fault_status Open →
    IsUnread name (old, new) (out, out) (note, note') status ⊎ IsOpened name does (old, new) (out, out) (note, note') status
not_opened name reason does old new out note note' status fails writes is = inl (record {
  failed = record { fails = fails; reason = reason; on_note = writes; status_is = is };
  on_out = refl;
})

pub opened : (name : List ℕ) (does : Does) (old mid new : FilesState) (input input' : PortState) (out note : Pass)
    (status : Status) → IsUnchanged old mid → Shows (old.holds name) input.bytes →
    does (mid, new) (input, input') out note status →
    IsUnread name (old, new) out note status ⊎ IsOpened name does (old, new) out note status
opened name does old mid new input input' out note status unchanged shows work = inr (record {
  opened = mid;
  input = (input, input');
  unchanged = unchanged;
  shows = shows;
  work = work;
})

pub ruleset opening = (common_steps, not_opened, opened)
