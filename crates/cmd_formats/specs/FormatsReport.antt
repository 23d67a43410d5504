-- The task of comparing a netlist with a given one, each a text of its own in a format of its own.
use Rattle.std.specs.Prelude.{◌≡◌, ℕ, ◌≤◌, List, length, Bool, true, Option, Some, None}
use Rattle.net_theory.specs.Limits.{most_of_netlist}
use Rattle.format_names.specs.declared.formats.FormatPair.{FormatPair}
use Rattle.equiv_run.specs.declared.answer.CompareError.{CompareError}
use Rattle.equiv_run.specs.Two.{is_bare}
use Rattle.equiv_formats.specs.Comparison.{first_format, IsFormatsAnswer, SaysNoSink, HasFormatsFault}
use Rattle.frame_core.specs.Reported.{Reply}
use Rattle.frame_core.specs.Task.{Task, at_once}
use Rattle.cmd_equiv.specs.EquivReport.{standing_status, Comparison}
use Rattle.cmd_equiv.specs.WithReport.{WithFault, FirstEmpty, SecondEmpty, Faulty, AreSaid, IsSecondEmpty, with_report, with_refusal}

-- the comparison, what is told of a difference, and whether the netlists have neither an output nor a latch
pub record NamedComparison : Type 0 where
  pub compared : Comparison
  pub told : Option (List ℕ)
  pub no_sink : Bool

-- The report: the names of a difference; or one line where nothing was compared; or none.
abbrev pub told_or : Option (List ℕ) → Option (List ℕ) → Option (List ℕ)
told_or (Some told) report = Some told
told_or None report = report

abbrev pub named_reply : NamedComparison → Reply
named_reply c = record {
  text = c.compared.text;
  report = told_or c.told (with_report c.no_sink);
  status = standing_status c.compared.outcome;
}

-- The texts are two netlists with the same interface, `text` reports and proves the result for their documents, and a
-- difference is told by names. The same interface has the same outputs and latches, so that the first says whether there
-- are any.
pub record IsFormatsComparison (p : FormatPair) (budget : ℕ) (first second : List ℕ) (c : NamedComparison) : Type 0 where
  pub within : length second ≤ most_of_netlist
  pub said : AreSaid first second
  pub answer : IsFormatsAnswer p budget first second c.compared.text c.told c.compared.outcome
  pub no_sink : SaysNoSink (first_format p) first c.no_sink

pub record IsFaulty (p : FormatPair) (first second : List ℕ) (error : CompareError) : Type 0 where
  pub said : AreSaid first second
  pub fault : HasFormatsFault p first second error

-- An empty text is reported before any other fault.
abbrev pub HasFault : FormatPair → List ℕ → List ℕ → WithFault → Type 0
HasFault p first second FirstEmpty = is_bare first ≡ true
HasFault p first second SecondEmpty = IsSecondEmpty first second
HasFault p first second (Faulty error) = IsFaulty p first second error

pub record MeetsFault (p : FormatPair) (first second : List ℕ) (fault : WithFault) : Type 0 where
  pub within : length second ≤ most_of_netlist
  pub met : HasFault p first second fault

-- The bytes of the task's source are the second text. The words are those of `equiv` of two BLIF netlists.
abbrev pub formats_task : FormatPair → ℕ → List ℕ → Task
formats_task p budget first = at_once most_of_netlist NamedComparison (IsFormatsComparison p budget first) named_reply WithFault
    (MeetsFault p first) with_refusal
