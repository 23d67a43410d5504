-- Answers whose log goes to a file.
use Rattle.std.specs.Prelude.{◌≡◌, ℕ, List, Some, refl}
use Rattle.std.proofs.Common.{inl, inr}
use Rattle.std.proofs.lemmas.Grind.{common_steps}
use Rattle.frame_core.specs.declared.status.Status.{Status}
use Rattle.frame_core.specs.Outside.{PortState, Writes}
use Rattle.file_io.specs.declared.calls.Call.TheVariants.{Create}
use Rattle.file_io.specs.FaultLine.{fault_line, fault_status}
use Rattle.file_io.specs.Names.{Begun}
use Rattle.file_io.specs.Files.{FilesState, IsUnchanged, Fails}
use Rattle.file_io.specs.Settling.{Settles}
use Rattle.file_io.specs.Served.{Pass, Does}
use Rattle.file_io.specs.ServedLaws.{still}
use Rattle.front_formula.specs.Accompanied.{IsAccompanied}
use Rattle.front_formula.specs.LogEnds.{EndsLog}
use Rattle.front_formula.specs.Logged.{IsAfter, IsSkipped, IsLogged}

pub skipped : (ended : Status) (state : FilesState) (source out note : PortState) →
    IsSkipped ended (state, state) (source, source) (out, out) (note, note) ended
skipped ended state source out note = record {
  unchanged = still state;
  on_source = refl;
  on_out = refl;
  on_note = refl;
  status_is = refl;
}

pub ruleset after = (common_steps, skipped)

pub no_log : (name reason : List ℕ) (answers logs : Does) (old new : FilesState) (source out note note' : PortState)
    (status : Status) → Fails Create old new → Writes note note' (fault_line Create name reason) →
    status ≡ fault_status Create →
    IsLogged (Some name) answers logs (old, new) (source, source) (out, out) (note, note') status
no_log name reason answers logs old new source out note note' status fails writes is = inl (
  record {
    failed = record { fails = fails; reason = reason; on_note = writes; status_is = is };
    on_source = refl;
  },
  refl,
)

pub logged : (name : List ℕ) (answers logs : Does) (old created answered after_logs new : FilesState)
    (source middle source' : PortState) (out : Pass) (draft draft' note between later note' : PortState)
    (first ended status : Status) →
    IsUnchanged old created → Begun (old.holds name) draft.bytes → answers (created, answered) (source, middle) out (note, between) first →
    IsAfter first logs (answered, after_logs) (middle, source') (draft, draft') (between, later) ended →
    EndsLog name ended draft'.bytes (after_logs, new) (later, note') status →
    IsLogged (Some name) answers logs (old, new) (source, source') out (note, note') status
logged name answers logs old created answered after_logs new source middle source' out draft draft' note between later note' first ended status unchanged empty answer log settles =
    inr (record {
      created = created;
      answered = answered;
      logged = after_logs;
      draft = (draft, draft');
      middle = middle;
      between = between;
      later = later;
      first = first;
      ended = ended;
      unchanged = unchanged;
      empty = empty;
      answer = answer;
      log = log;
      settles = settles;
    })

pub ruleset logging = (common_steps, no_log, logged)

-- ---- answers with a file that is written before them

pub no_text : (name reason : List ℕ) (texts answers : Does) (old new : FilesState) (source out note note' : PortState)
    (status : Status) → Fails Create old new → Writes note note' (fault_line Create name reason) →
    status ≡ fault_status Create →
    IsAccompanied (Some name) texts answers (old, new) (source, source) (out, out) (note, note') status
no_text name reason texts answers old new source out note note' status fails writes is = inl (
  record {
    failed = record { fails = fails; reason = reason; on_note = writes; status_is = is };
    on_source = refl;
  },
  refl,
)

pub accompanied : (name : List ℕ) (texts answers : Does) (old created written answered new : FilesState)
    (source middle source' : PortState) (out : Pass) (draft draft' note between later note' : PortState)
    (first ended status : Status) →
    IsUnchanged old created → Begun (old.holds name) draft.bytes → texts (created, written) (source, middle) (draft, draft') (note, between) first →
    IsAfter first answers (written, answered) (middle, source') out (between, later) ended →
    Settles name ended draft'.bytes (answered, new) (later, note') status →
    IsAccompanied (Some name) texts answers (old, new) (source, source') out (note, note') status
accompanied name texts answers old created written answered new source middle source' out draft draft' note between later
    note' first ended status unchanged empty text answer settles =
    inr (record {
      created = created;
      written = written;
      answered = answered;
      draft = (draft, draft');
      middle = middle;
      between = between;
      later = later;
      first = first;
      ended = ended;
      unchanged = unchanged;
      empty = empty;
      text = text;
      answer = answer;
      settles = settles;
    })

pub ruleset accompanying = (common_steps, no_text, accompanied)
