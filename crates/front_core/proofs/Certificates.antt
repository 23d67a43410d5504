-- Answers whose certificate goes to a file.
use Rattle.std.specs.Prelude.{◌≡◌, ℕ, List, [], ◌∷◌, Bool, true, false, Option, refl}
use Rattle.std.proofs.Common.{sym, ◌∙◌, inl, inr}
use Rattle.std.proofs.lemmas.Grind.{common_steps}
use Rattle.frame_core.specs.declared.status.Status.{Status}
use Rattle.frame_core.specs.Outside.{PortState, Writes}
use Rattle.frame_core.specs.Performed.{IsPerformed}
use Rattle.file_io.specs.declared.calls.Call.TheVariants.{Open, Create}
use Rattle.file_io.specs.FaultLine.{fault_line, fault_status}
use Rattle.file_io.specs.Names.{Shows, file_of, Begun, Begins, is_some_text}
use Rattle.file_io.specs.Files.{FilesState, IsUnchanged, Fails}
use Rattle.file_io.specs.Settling.{is_answer_status, Settles}
use Rattle.file_io.specs.Served.{Pass, Does}
use Rattle.file_io.specs.ServedLaws.{still}
use Rattle.shown_lines.specs.ShownReport.{shown_task}
use Rattle.shown_lines.specs.ShownLaws.{shown_is_task}
use Rattle.front_core.specs.Certified.{ShowsLines, status_after, IsShown, IsCertifiedBy}

pub lines_shown : (source out note : Pass) (status : Status) → IsPerformed shown_task source out note status →
    ShowsLines source out note status
lines_shown source out note status performed = performed.promise [] shown_is_task

pub not_an_answer : (name : List ℕ) (ended : Status) (written : Option (List ℕ)) (state : FilesState) (out note : PortState) →
    is_answer_status ended ≡ false → IsShown name ended written (state, state) (out, out) (note, note) ended
not_an_answer name ended written state out note not = inl (record {
  none = inl not;
  unchanged = still state;
  on_out = refl;
  on_note = refl;
  status_is = refl;
})

no_text : (bytes : List ℕ) → false ≡ is_some_text bytes → bytes ≡ []
no_text [] is = refl
no_text (b ∷ bs) is = absurd cc

pub nothing_to_show : (name : List ℕ) (ended : Status) (written : Option (List ℕ)) (answer : Bool) (state : FilesState)
    (out note : PortState) → answer ≡ false → Begins written answer →
    IsShown name ended written (state, state) (out, out) (note, note) ended
nothing_to_show name ended written answer state out note not begins = inl (record {
  none = inr (λ bytes is. no_text bytes (sym not ∙ begins bytes is));
  unchanged = still state;
  on_out = refl;
  on_note = refl;
  status_is = refl;
})

pub not_reopened : (name reason : List ℕ) (ended : Status) (written : Option (List ℕ)) (old new : FilesState)
    (out note note' : PortState) (status : Status) → Fails Open old new → Writes note note' (fault_line Open name reason) →
    status ≡ fault_status Open → IsShown name ended written (old, new) (out, out) (note, note') status
not_reopened name reason ended written old new out note note' status fails writes is = inr (inl (record {
  failed = record { fails = fails; reason = reason; on_note = writes; status_is = is };
  on_out = refl;
}))

pub reopened : (name : List ℕ) (ended shown : Status) (written : Option (List ℕ)) (old new : FilesState)
    (text text' : PortState) (out note : Pass) (status : Status) → is_answer_status ended ≡ true →
    IsUnchanged old new → Shows (file_of written) text.bytes → ShowsLines (text, text') out note shown →
    status ≡ status_after shown ended → IsShown name ended written (old, new) out note status
reopened name ended shown written old new text text' out note status answer unchanged shows lines is = inr (inr (record {
  answer = answer;
  text = (text, text');
  shown = shown;
  shows = shows;
  lines = lines;
  unchanged = unchanged;
  status_is = is;
}))

pub ruleset showing = (common_steps, lines_shown, not_an_answer, nothing_to_show, not_reopened, reopened)

pub no_certificate : (name reason : List ℕ) (does : Does) (old new : FilesState) (source out note note' : PortState)
    (status : Status) → Fails Create old new → Writes note note' (fault_line Create name reason) →
    status ≡ fault_status Create →
    IsCertifiedBy name does (old, new) (source, source) (out, out) (note, note') status
no_certificate name reason does old new source out note note' status fails writes is = inl (
  record {
    failed = record { fails = fails; reason = reason; on_note = writes; status_is = is };
    on_source = refl;
  },
  refl,
)

pub parted : (name : List ℕ) (does : Does) (old created worked shown new : FilesState) (source out : Pass)
    (draft draft' note between later note' : PortState) (ended after status : Status) →
    IsUnchanged old created → Begun (old.holds name) draft.bytes → does (created, worked) source (draft, draft') (note, between) ended →
    IsShown name ended draft'.bytes (worked, shown) out (between, later) after →
    Settles name after draft'.bytes (shown, new) (later, note') status →
    IsCertifiedBy name does (old, new) source out (note, note') status
parted name does old created worked shown new source out draft draft' note between later note' ended after status unchanged empty work lines settles =
    inr (record {
      created = created;
      worked = worked;
      shown = shown;
      draft = (draft, draft');
      between = between;
      later = later;
      ended = ended;
      after = after;
      unchanged = unchanged;
      empty = empty;
      work = work;
      lines = lines;
      settles = settles;
    })

pub ruleset certifying = (common_steps, no_certificate, parted)
