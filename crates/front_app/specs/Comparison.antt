-- What a comparison of two texts promises.
use Rattle.std.specs.Prelude.{ℕ, List, []}
use Rattle.format_names.specs.declared.formats.NetFormat.{NetFormat}
use Rattle.format_names.specs.declared.formats.NetFormat.TheVariants.{Blif}
use Rattle.format_names.specs.declared.formats.FormatPair.{FormatPair}
use Rattle.frame_core.specs.declared.status.Status.{Status}
use Rattle.frame_core.specs.Outside.{PortState}
use Rattle.frame_core.specs.Run.{run_of}
use Rattle.frame_core.specs.Promise.{CommandPromise}
use Rattle.frame_core.specs.Task.{Task}
use Rattle.cmd_formats.specs.FormatsReport.{formats_task}
use Rattle.cmd_match.specs.MatchReport.{match_task}
use Rattle.front_app.specs.declared.formats.CompareBy.{CompareBy}
use Rattle.front_app.specs.declared.formats.CompareBy.TheVariants.{Order, Names}

abbrev pub pair_of : NetFormat → NetFormat → FormatPair
pair_of first second = record { first = first; second = second }

abbrev pub blif_pair : FormatPair
blif_pair = pair_of Blif Blif

-- the task of comparing a text with that of the source, by order or by names
abbrev pub compare_task : CompareBy → FormatPair → ℕ → List ℕ → Task
compare_task Order = formats_task
compare_task Names = match_task

-- All that every command promises, for the task of comparing `text` with the text of the source, each in its format:
-- `equal` and `differ` speak of these two.
abbrev pub KeepsComparison : CompareBy → FormatPair → ℕ → List ℕ → PortState × PortState → PortState × PortState →
    PortState × PortState → Status → Type 0
KeepsComparison way formats budget text source out note status =
    CommandPromise (compare_task way formats budget text) (run_of [] source out note status)
