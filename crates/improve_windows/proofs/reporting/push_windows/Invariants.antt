-- What is written so far and the text of the remaining windows are the text of all.
use Rattle.std.proofs.Common.{◌≡◌, ◌++◌, length, All}
use Rattle.std.specs.List.{flat_map}
use Rattle.improve_windows.specs.Report.{window_text}
use Rattle.improve_windows.specs.ReportLaws.{CanBeWritten}
use Rattle.improve_windows.proofs.reporting.push_windows.Given as goal

abbrev pub invariant-loop-window : goal.invariant-loop-window
invariant-loop-window l =
    (l.report.items ++ flat_map (window_text l.names l.sources) l.left ≡ l.initial.report.items ++ flat_map (window_text l.names l.sources) l.undecided)
    × All CanBeWritten l.left

abbrev pub decreases-loop-window : goal.decreases-loop-window
decreases-loop-window l = length l.left
