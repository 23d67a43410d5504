-- The tasks of the miter of two netlists: its formula in DIMACS, and the log of their comparison as plain LRAT.
use Rattle.std.specs.Prelude.{◌≡◌, ℕ, ◌≤◌, Bool, List, [], length, None}
use Rattle.sat_theory.specs.Line.{Line}
use Rattle.sat_theory.specs.Log.{Refutes, ReachesBudget}
use Rattle.net_theory.specs.Document.{Document}
use Rattle.net_theory.specs.Circuit.{Circuit}
use Rattle.net_theory.specs.Net.{Net}
use Rattle.net_theory.specs.Limits.{most_of_netlist}
use Rattle.equiv_theory.specs.Miter.{miter}
use Rattle.equiv_theory.specs.Counterexample.{HaveSameInterface, IsCounterexample}
use Rattle.equiv_run.specs.declared.answer.EquivOutcome.{EquivOutcome}
use Rattle.equiv_run.specs.declared.answer.EquivOutcome.TheVariants.{Equal, Differ, Undecided}
use Rattle.equiv_run.specs.Pairs.{Lists, ShareInterface, HasMiter}
use Rattle.frame_core.specs.declared.status.Status.TheVariants.{Done}
use Rattle.frame_core.specs.Reported.{Reply}
use Rattle.frame_core.specs.Task.{Task, at_once}
use Rattle.cmd_equiv.specs.EquivReport.{Comparison, equiv_reply}
use Rattle.cmd_equiv.specs.WithReport.{AreSaid, WithFault, MeetsWithFault, with_refusal}
use Rattle.cmd_formula.specs.Dimacs.{dimacs_text, lrat_text, plain_log}

-- ---- two nets

-- The lines refute the miter, and the text spells them as a checker needs them.
pub record IsRefutation (n m : Net) (text : List ℕ) : Type 0 where
  pub lines : List Line
  pub refutes : Refutes (miter n m) lines
  pub is : text ≡ lrat_text (plain_log (miter n m) lines)

-- The lines have spent the budget on the miter.
pub record IsOpenLog (budget : ℕ) (n m : Net) (text : List ℕ) : Type 0 where
  pub lines : List Line
  pub spent : ReachesBudget (miter n m) lines budget
  pub is : text ≡ lrat_text (plain_log (miter n m) lines)

-- The nets differ, so there is no log.
pub record IsWithoutLog (n m : Net) (text : List ℕ) : Type 0 where
  pub sink : ℕ
  pub bits : List Bool
  pub differ : IsCounterexample n m sink bits
  pub is : text ≡ []

abbrev pub IsLogOf : ℕ → Net → Net → List ℕ → EquivOutcome → Type 0
IsLogOf budget n m text Equal = IsRefutation n m text
IsLogOf budget n m text Differ = IsWithoutLog n m text
IsLogOf budget n m text Undecided = IsOpenLog budget n m text

-- ---- two circuits of one interface

pub record IsFormulaOf (c k : Circuit) (text : List ℕ) : Type 0 where
  pub interface : HaveSameInterface c k
  pub is : text ≡ dimacs_text (miter c.net k.net)

pub record IsLogged (budget : ℕ) (c k : Circuit) (text : List ℕ) (outcome : EquivOutcome) : Type 0 where
  pub interface : HaveSameInterface c k
  pub log : IsLogOf budget c.net k.net text outcome

-- ---- two texts

-- The texts are netlists of one interface with these nets.
pub record HaveNets (first second : List ℕ) (n m : Net) : Type 0 where
  pub one : Document
  pub other : Document
  pub first_is : Lists first one
  pub second_is : Lists second other
  pub interface : ShareInterface one other
  pub nets : HasMiter one other n m

-- The text is the miter of their nets.
pub record IsMiterText (first second text : List ℕ) : Type 0 where
  pub n : Net
  pub m : Net
  pub have : HaveNets first second n m
  pub is : text ≡ dimacs_text (miter n m)

-- The text is the log of the comparison of their nets.
pub record IsLogText (budget : ℕ) (first second text : List ℕ) (outcome : EquivOutcome) : Type 0 where
  pub n : Net
  pub m : Net
  pub have : HaveNets first second n m
  pub log : IsLogOf budget n m text outcome

-- ---- the tasks

-- No text is without a directive, and the formula is that of their miter.
pub record IsMiterAnswer (first second text : List ℕ) : Type 0 where
  pub within : length second ≤ most_of_netlist
  pub said : AreSaid first second
  pub answer : IsMiterText first second text

pub record IsLogAnswer (budget : ℕ) (first second : List ℕ) (c : Comparison) : Type 0 where
  pub within : length second ≤ most_of_netlist
  pub said : AreSaid first second
  pub answer : IsLogText budget first second c.text c.outcome

abbrev pub formula_reply : List ℕ → Reply
formula_reply text = record { text = text; report = None; status = Done }

-- The bytes of the task's source are the second text. Two texts that `equiv` doesn't compare are refused as by `equiv`.
abbrev pub pair_task : (A : Type 0) → (List ℕ → List ℕ → A → Type 0) → (A → Reply) → List ℕ → Task
pair_task A Is reply first =
    at_once most_of_netlist A (Is first) reply WithFault (MeetsWithFault first) with_refusal

-- the formula in DIMACS
abbrev pub miter_task : List ℕ → Task
miter_task first = pair_task (List ℕ) IsMiterAnswer formula_reply first

-- the log as plain LRAT; the status is that of `equiv`
abbrev pub miter_log_task : ℕ → List ℕ → Task
miter_log_task budget first = pair_task Comparison (IsLogAnswer budget) equiv_reply first
