-- The task of comparing a netlist by names with a given one, each a text of its own in a format of its own.
use Rattle.std.specs.Prelude.{◌≡◌, ℕ, ◌≤◌, List, [], ◌∷◌, length, Bool, true, false, codes}
use Rattle.net_theory.specs.Limits.{most_of_netlist}
use Rattle.format_names.specs.declared.formats.FormatPair.{FormatPair}
use Rattle.equiv_run.specs.declared.answer.CompareError.{CompareError}
use Rattle.equiv_run.specs.declared.answer.CompareError.TheVariants.{DifferentInterface}
use Rattle.equiv_run.specs.Two.{is_bare}
use Rattle.equiv_formats.specs.Comparison.{first_format, SaysNoSink}
use Rattle.match_core.specs.declared.lacking.NameKind.{NameKind}
use Rattle.match_core.specs.declared.lacking.NameKind.TheVariants.{Input, Output, Latch}
use Rattle.match_core.specs.declared.lacking.Lack.{Lack}
use Rattle.equiv_match.specs.declared.error.MatchError.{MatchError}
use Rattle.equiv_match.specs.declared.error.MatchError.TheVariants.{Refused, Lacks}
use Rattle.equiv_match.specs.MatchComparison.{IsMatchedAnswer, HasMatchFault}
use Rattle.frame_core.specs.declared.status.Status.TheVariants as statuses
use Rattle.frame_core.specs.Reported.{Word, Refusal, plain}
use Rattle.frame_core.specs.Task.{Task, at_once}
use Rattle.cmd_equiv.specs.EquivReport.{equiv_refusal}
use Rattle.cmd_equiv.specs.WithReport.{AreSaid, IsSecondEmpty, empty_refusal}
use Rattle.cmd_formats.specs.FormatsReport.{NamedComparison, named_reply}

-- The texts are two netlists whose inputs, outputs and latches correspond by names, and `text` reports and proves the
-- result for the first and for the second in the order of the first.
pub record IsMatchComparison (p : FormatPair) (budget : ℕ) (first second : List ℕ) (c : NamedComparison) : Type 0 where
  pub within : length second ≤ most_of_netlist
  pub said : AreSaid first second
  pub answer : IsMatchedAnswer p budget first second c.compared.text c.told c.compared.outcome
  pub no_sink : SaysNoSink (first_format p) first c.no_sink

-- Why two texts can't be compared: the first says nothing; the second says nothing; a fault of one of them or of both.
pub data MatchFault : Type 0 where
  FirstEmpty : MatchFault
  SecondEmpty : MatchFault
  Faulty : (error : MatchError) → MatchFault

pub record IsFaulty (p : FormatPair) (first second : List ℕ) (error : MatchError) : Type 0 where
  pub said : AreSaid first second
  pub fault : HasMatchFault p first second error

-- An empty text is reported before any other fault.
abbrev pub HasFault : FormatPair → List ℕ → List ℕ → MatchFault → Type 0
HasFault p first second FirstEmpty = is_bare first ≡ true
HasFault p first second SecondEmpty = IsSecondEmpty first second
HasFault p first second (Faulty error) = IsFaulty p first second error

pub record MeetsMatchFault (p : FormatPair) (first second : List ℕ) (fault : MatchFault) : Type 0 where
  pub within : length second ≤ most_of_netlist
  pub met : HasFault p first second fault

-- which netlist lacks a name, and of what
abbrev pub side_word : Bool → List ℕ
side_word true = codes "Second"
side_word false = codes "First"

abbrev pub kind_word : NameKind → List ℕ
kind_word Input = codes "NoInput"
kind_word Output = codes "NoOutput"
kind_word Latch = codes "NoLatch"

-- Example: `Second NoInput a`, where the second netlist has no input `a`.
unfoldable pub lack_refusal : Lack → Refusal
lack_refusal lack = record {
  status = statuses.Refused;
  named = Word (side_word lack.in_second) ∷ Word (kind_word lack.kind) ∷ Word lack.name ∷ [];
}

unfoldable pub latches_refusal : Refusal
latches_refusal = record { status = statuses.Refused; named = plain (codes "DifferentLatches") }

-- Netlists that share their names and have different interfaces differ in clocks, or in controls or initial values of
-- latches.
abbrev pub pair_refusal : CompareError → Refusal
pair_refusal DifferentInterface = latches_refusal
pair_refusal error = equiv_refusal error

abbrev pub error_refusal : MatchError → Refusal
error_refusal (Refused error) = pair_refusal error
error_refusal (Lacks lack) = lack_refusal lack

abbrev pub match_refusal : MatchFault → Refusal
match_refusal FirstEmpty = empty_refusal (codes "First")
match_refusal SecondEmpty = empty_refusal (codes "Second")
match_refusal (Faulty error) = error_refusal error

-- The bytes of the task's source are the second text.
abbrev pub match_task : FormatPair → ℕ → List ℕ → Task
match_task p budget first = at_once most_of_netlist NamedComparison (IsMatchComparison p budget first) named_reply MatchFault
    (MeetsMatchFault p first) match_refusal
