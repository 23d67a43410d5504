use Rattle.std.proofs.Common.{refl}
use Rattle.frame_core.specs.Reported.{read_fault, write_fault, memory}
use Rattle.frame_core.specs.Views.{line_value}
use Rattle.frame_core.proofs.Pieces.{reported_as}
use Rattle.frame_core.proofs.reporting.report_end.Goals as goal

pub returns-in-ReadFault-clause-line : goal.returns-in-ReadFault-clause-line
unfolding read_fault
returns-in-ReadFault-clause-line g c = reported_as _ _ _ _ (line_value c.plain.result) read_fault c.in-ReadFault.is refl c.plain.ensures c.report_error.ensures.line

pub returns-in-Truncated-clause-line : goal.returns-in-Truncated-clause-line
unfolding write_fault
returns-in-Truncated-clause-line g c = reported_as _ _ _ _ (line_value c.plain-in-Truncated.result) write_fault
    c.in-Truncated.is refl c.plain-in-Truncated.ensures c.report_error-in-Truncated.ensures.line

pub returns-in-ReportTruncated-clause-line : goal.returns-in-ReportTruncated-clause-line
unfolding write_fault
returns-in-ReportTruncated-clause-line g c = reported_as _ _ _ _ (line_value c.plain-in-ReportTruncated.result)
    write_fault c.in-ReportTruncated.is refl c.plain-in-ReportTruncated.ensures
    c.report_error-in-ReportTruncated.ensures.line

pub returns-in-OutOfMemoryMidway-clause-line : goal.returns-in-OutOfMemoryMidway-clause-line
unfolding memory
returns-in-OutOfMemoryMidway-clause-line g c = reported_as _ _ _ _ (line_value c.plain-in-OutOfMemoryMidway.result)
    memory c.in-OutOfMemoryMidway.is refl c.plain-in-OutOfMemoryMidway.ensures
    c.report_error-in-OutOfMemoryMidway.ensures.line
