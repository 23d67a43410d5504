-- What a comparison of two texts promises, of which the second is the source. The texts are never joined.
use Rattle.std.specs.Prelude.{ℕ, ◌<◌, ◌≤◌, List, [], ◌∷◌, length, Option, Some, None, codes}
use Rattle.net_theory.specs.Limits.{most_of_netlist}
use Rattle.command_line.specs.declared.command.Command.{Command}
use Rattle.command_line.specs.declared.command.Command.TheVariants.{Agree, Recheck, RecheckDepth, Synth, LeastDepth, Improve, Equiv, Gen}
use Rattle.command_line.specs.CommandLine.{AsksFor, IsBudget}
use Rattle.frame_core.specs.declared.status.Status.TheVariants.{Usage, Limit}
use Rattle.frame_core.specs.Reported.{Word, Refusal, usage}
use Rattle.frame_core.specs.Promise.{CommandPromise, ReportsError}
use Rattle.frame_core.specs.Run.{Run}
use Rattle.cmd_equiv.specs.WithReport.{with_task}

-- words that ask for no comparison
abbrev pub no_comparison : Refusal
no_comparison = record { status = Usage; named = usage }

-- `First TooLong`
unfoldable pub first_too_long : Refusal
first_too_long = record { status = Limit; named = Word (codes "First") ∷ Word (codes "TooLong") ∷ [] }

-- The words of `equiv` compare the first text with that of the source, with all that every command promises; a first
-- text that is too long is refused, and so are any other words.
pub record KeepsPair (first : List ℕ) (r : Run) : Type 0 where
  pub compares : (budget : ℕ) → AsksFor r.words (Equiv budget) → length first ≤ most_of_netlist → CommandPromise (with_task budget first) r
  pub too_long : (budget : ℕ) → AsksFor r.words (Equiv budget) → most_of_netlist < length first → ReportsError r first_too_long
  pub usage : ((budget : ℕ) → AsksFor r.words (Equiv budget) → ⊥) → ReportsError r no_comparison

-- the budget of a comparison
abbrev pub budget_in : Command → Option ℕ
budget_in Agree = None
budget_in Recheck = None
budget_in RecheckDepth = None
budget_in (Synth settings) = None
budget_in (LeastDepth settings) = None
budget_in (Improve format settings) = None
budget_in (Equiv budget) = Some budget
budget_in (Gen blocks action) = None

-- the budget of the comparison that words ask for; None if they ask for none
abbrev pub IsBudgetOf : List (List ℕ) → Option ℕ → Type 0
IsBudgetOf words (Some budget) = AsksFor words (Equiv budget) × IsBudget budget
IsBudgetOf words None = (budget : ℕ) → AsksFor words (Equiv budget) → ⊥
