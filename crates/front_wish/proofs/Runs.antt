-- How a run ends that improves a netlist by wishes.
use Rattle.std.specs.Prelude.{◌≡◌, ℕ, List, [], Option}
use Rattle.std.proofs.Common.{subst}
use Rattle.std.proofs.lemmas.Grind.{common_steps}
use Rattle.format_names.specs.declared.formats.NetFormat.{NetFormat}
use Rattle.net_formats.specs.Formats.{format_of}
use Rattle.settings.specs.declared.improve.ImproveSettings.{ImproveSettings}
use Rattle.settings.specs.Improve.{IsInRange}
use Rattle.improve_windows.specs.Improving.{FitsFormat}
use Rattle.wish_names.specs.declared.wishes.Wishes.{Wishes}
use Rattle.frame_core.specs.declared.status.Status.{Status}
use Rattle.frame_core.specs.Outside.{PortState}
use Rattle.frame_core.specs.Performed.{IsPerformed}
use Rattle.file_io.specs.Files.{FilesState, Files}
use Rattle.file_io.specs.Served.{Pass, IsApart, IsRead}
use Rattle.file_io.specs.ServedLaws.{still}
use Rattle.cmd_wishes.specs.WishReport.{wished_task}
use Rattle.cmd_wishes.specs.WishLaws.{wished_is_task}
use Rattle.front_core.specs.Asked.{name_in, first_in}
use Rattle.front_core.specs.Front.{front_run, IsDone}
use Rattle.front_formula.specs.FormulaRuns.{Performs}
use Rattle.front_guide.specs.Guided.{IsFollowed}
use Rattle.front_wish.specs.AskedWishes.{Wish, IsReady}
use Rattle.front_wish.specs.WishRuns.{task_of, IsWishDone, IsWishServed}

-- ---- the command

pub performed : (format : NetFormat) (settings : ImproveSettings) (wishes : Wishes) (state : FilesState)
    (source out note : Pass) (status : Status) →
    IsPerformed (wished_task format settings wishes) source out note status →
    IsApart (Performs (wished_task format settings wishes)) (state, state) source out note status
performed format settings wishes state source out note status is = record {
  work = is.promise [] (wished_is_task format settings wishes);
  unchanged = still state;
}

pub range_of : (format : NetFormat) (settings : ImproveSettings) → IsReady format settings → IsInRange settings
range_of format settings ready = ready.range

pub fits_of : (format : NetFormat) (settings : ImproveSettings) → IsReady format settings →
    FitsFormat (format_of format) settings
fits_of format settings ready = ready.basis

pub ruleset performing = (common_steps, performed, range_of, fits_of)

-- ---- an answer

-- the file by its name
pub answered : (w : Wish) (input : Option (List ℕ)) (files : Files) (source out note : Pass) (status : Status) →
    input ≡ name_in (first_in w.line.operands) →
    ((all : List (List ℕ)) →
    IsDone w.line (IsRead input (IsApart (Performs (task_of w)))) (front_run all files source out note status)) →
    (words : List (List ℕ)) → IsWishDone w (front_run words files source out note status)
answered w input files source out note status i done words =
    subst (λ (x : Option (List ℕ)).
    IsDone w.line (IsRead x (IsApart (Performs (task_of w)))) (front_run words files source out note status)) i
    (done words)

pub ruleset answers = (common_steps, answered)

pub served : (w : Wish) (files : Files) (source out : Pass) (note between note' : PortState) (status : Status) →
    ((all : List (List ℕ)) → IsWishDone w (front_run all files source out (note, between) status)) →
    IsFollowed between note' status →
    (words : List (List ℕ)) → IsWishServed w (front_run words files source out (note, note') status)
served w files source out note between note' status done followed words =
    record { between = between; done = done words; followed = followed }

pub ruleset runs = (common_steps, served)
