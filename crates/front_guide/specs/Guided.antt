-- How a run ends that helps people.
use Rattle.std.specs.Prelude.{◌≡◌, ◌≤◌, ◌⊎◌, List, ℕ, Bool, true, false}
use Rattle.port_io.specs.Faults.{Rose}
use Rattle.format_names.specs.declared.formats.FormatPair.{FormatPair}
use Rattle.frame_core.specs.declared.status.Status.{Status}
use Rattle.frame_core.specs.declared.status.Status.TheVariants.{Done, Undecided, WriteFault}
use Rattle.frame_core.specs.Outside.{PortState, IsFaultless, Writes}
use Rattle.file_io.specs.Served.{Pass}
use Rattle.front_core.specs.Asked.{IsNotPlain}
use Rattle.front_core.specs.Front.{Promises, FrontRun, front_run}
use Rattle.front_at.specs.AtRuns.{IsServed}
use Rattle.front_guide.specs.Words.{asks_for_page}

-- A page was written to the output and no call failed, or one did.
abbrev pub IsPageStatus : Pass → Status → Type 0
IsPageStatus out status =
    ((status ≡ Done) × IsFaultless out.0 out.1) ⊎ ((status ≡ WriteFault) × Rose out.0.faults out.1.faults)

-- The words, which are no command line as they are, ask for a page, and one went to the output. Nothing else happened.
pub record IsPaged (r : FrontRun) : Type 0 where
  pub other : IsNotPlain r.words
  pub asks : asks_for_page r.words ≡ true
  pub page : List ℕ
  pub on_out : Writes r.out.0 r.out.1 page
  pub status_is : IsPageStatus r.out r.status
  pub on_files : r.files.1 ≡ r.files.0
  pub on_source : r.source.1 ≡ r.source.0
  pub on_note : r.note.1 ≡ r.note.0

-- a run up to a state of its notes
abbrev pub up_to : PortState → FrontRun → FrontRun
up_to between r = front_run r.words r.files r.source r.out (r.note.0, between) r.status

-- whether a command found an answer of its own
abbrev pub is_found : Status → Bool
is_found Done = true
is_found Undecided = true
is_found status = false

-- A text for people went to the notes, whose count of failed calls never falls, and there is no answer.
pub record IsHinted (between after : PortState) (status : Status) : Type 0 where
  pub hint : List ℕ
  pub on_note : Writes between after hint
  pub rises : between.faults ≤ after.faults
  pub unanswered : is_found status ≡ false

-- After a run, whose notes were in the first state, there came nothing, or a text for people.
abbrev pub IsFollowed : PortState → PortState → Status → Type 0
IsFollowed between after status = (after ≡ between) ⊎ IsHinted between after status

-- The run ended, up to a state of its notes; after it came nothing, or a text for people. The formats are those of
-- netlists whose values the words may ask for.
pub record IsHelped (formats : FormatPair) (promises : Promises) (r : FrontRun) : Type 0 where
  pub between : PortState
  pub served : IsServed formats promises (up_to between r)
  pub hinted : IsFollowed between r.note.1 r.status

abbrev pub IsGuided : FormatPair → Promises → FrontRun → Type 0
IsGuided formats promises r = IsPaged r ⊎ IsHelped formats promises r
