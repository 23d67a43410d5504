-- One more window is written.
use Rattle.improve_windows.specs.Report.{window_text}
use Rattle.improve_windows.specs.ReportLaws.{CanBeWritten, windows_more, all_after}
use Rattle.improve_windows.proofs.reporting.push_windows.Goals as goal

pub loop-window-preserved : goal.loop-window-preserved
loop-window-preserved c = (
  windows_more (window_text c.args.names.now c.args.sources) c.args.report.now.items c.loop-window.report.items
      c.push_window.new.report.items c.in-Some.window.now c.loop-window.left.now c.in-Some.rest.now c.args.undecided.now
      c.loop-window.invariant.0 c.in-Some.ensures.cases.0 c.in_ok-push_window.ensures,
  all_after CanBeWritten c.in-Some.window.now c.in-Some.rest.now c.loop-window.left.now c.in-Some.ensures.cases.0 c.loop-window.invariant.1,
)
