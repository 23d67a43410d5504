-- The promise of `synth --least-depth yes`, besides that of every command.
use Rattle.std.specs.Prelude.{◌≡◌, ℕ, ◌≤◌, ◌⊎◌, List}
use Rattle.chain_theory.specs.Agreement.{HasChain}
use Rattle.cert_theory.specs.declared.data.Verdict.{Verdict}
use Rattle.cert_theory.specs.declared.data.Verdict.TheVariants.{NoChain}
use Rattle.cert_theory.specs.Meaning.{Means}
use Rattle.tt_core.specs.Words.{Words, specification}
use Rattle.tt_core.specs.declared.error.SpecError.{SpecError}
use Rattle.op_basis.specs.Basis.{members}
use Rattle.command_line.specs.CommandLine.{AsksFor}
use Rattle.settings.specs.declared.synth.SynthSettings.{SynthSettings}
use Rattle.depth_theory.specs.DepthMeaning.{IsLeastDepth, IsBoundedDepth}
use Rattle.depth_theory.specs.declared.data.DepthVerdict.TheVariants.{Levels, Bounded}
use Rattle.depth_file.specs.BudgetReached.{IsLeftOpen}
use Rattle.synth_core.specs.SettingsHeader.{header_of}
use Rattle.synth_core.specs.declared.least_depth.DepthFound.TheVariants.{Least, Other}
use Rattle.frame_core.specs.declared.status.Status.TheVariants.{Done, Undecided, Refused}
use Rattle.cmd_synth.specs.SynthReport.{verdict_status, synth_refusal, AreTables, HasTablesFault}
use Rattle.cmd_synth.specs.LeastDepthReport.{least_depth_reply, IsCertified, least_depth_task}
use Rattle.command_line.specs.declared.command.Command.TheVariants.{LeastDepth}
use Rattle.frame_core.specs.Run.{Run}
use Rattle.cmd_lines.specs.Runs.{Runs}
use Rattle.frame_core.specs.Promise.{InputHeld, OutputHeld, Stands, ReportsError, Replies}

-- A depth certificate was written. `steps` is the least number of steps, some chain of `steps` steps has `levels`
-- levels, and none has fewer.
pub record FindsLeast (settings : SynthSettings) (tables : Words) (r : Run) (input : List ℕ) : Type 0 where
  pub text : List ℕ
  pub levels : ℕ
  pub certified : IsCertified settings input (record { text = text; found = Least (Levels levels) })
  pub stands : Stands r (least_depth_reply (record { text = text; found = Least (Levels levels) }))
  pub steps : ℕ
  pub least : IsLeastDepth (specification tables) (members settings.basis) steps levels

-- A certificate of the fewest steps was written. No chain of at most `max` steps implements the tables.
pub record FindsNone (settings : SynthSettings) (tables : Words) (r : Run) (input : List ℕ) : Type 0 where
  pub text : List ℕ
  pub certified : IsCertified settings input (record { text = text; found = Other (NoChain settings.max) })
  pub stands : Stands r (least_depth_reply (record { text = text; found = Other (NoChain settings.max) }))
  pub none : (steps : ℕ) → steps ≤ settings.max → HasChain (specification tables) (members settings.basis) steps → ⊥

-- A depth certificate was written. `steps` is the least number of steps, some chain of `steps` steps has
-- `levels` levels, and none has fewer than `low`; in the text a log of a fence with `low` levels reaches the
-- budget.
pub record FindsBounds (settings : SynthSettings) (tables : Words) (r : Run) (input : List ℕ) : Type 0 where
  pub text : List ℕ
  pub low : ℕ
  pub levels : ℕ
  pub certified : IsCertified settings input (record { text = text; found = Least (Bounded low levels) })
  pub stands : Stands r (least_depth_reply (record { text = text; found = Least (Bounded low levels) }))
  pub steps : ℕ
  pub bounded : IsBoundedDepth (specification tables) (members settings.basis) steps low levels
  pub spent : IsLeftOpen text (header_of tables settings) steps low

-- A certificate was written that leaves the fewest steps open; what its verdict says is true.
pub record LeavesSteps (settings : SynthSettings) (tables : Words) (r : Run) (input : List ℕ) : Type 0 where
  pub text : List ℕ
  pub verdict : Verdict
  pub certified : IsCertified settings input (record { text = text; found = Other verdict })
  pub stands : Stands r (least_depth_reply (record { text = text; found = Other verdict }))
  pub is_open : verdict_status verdict ≡ Undecided
  pub means : Means (specification tables) (members settings.basis) verdict

pub record LeastDepthPromise (r : Run) : Type 0 where
  -- Tables get a certificate, with the status of what was found.
  pub complete : (settings : SynthSettings) (input : List ℕ) (tables : Words)
      → Runs (LeastDepth settings) r input
      → AreTables input tables
      → OutputHeld r
      → Replies (least_depth_task settings) r input
  -- The statuses 0 and 4 occur only with a certificate, and 8 never.
  pub answer_only : (settings : SynthSettings) (input : List ℕ)
      → Runs (LeastDepth settings) r input
      → (r.status ≡ Done) ⊎ (r.status ≡ Undecided)
      → Replies (least_depth_task settings) r input
  pub never_refused : (settings : SynthSettings) → AsksFor r.words (LeastDepth settings) → r.status ≡ Refused → ⊥
  -- The status 0 means: the output has the fewest levels of a chain of the fewest steps, or no chain of at most
  -- `max` steps implements the tables.
  pub least : (settings : SynthSettings) (input : List ℕ) (tables : Words)
      → Runs (LeastDepth settings) r input
      → AreTables input tables
      → r.status ≡ Done
      → FindsLeast settings tables r input ⊎ FindsNone settings tables r input
  -- The status 4 means: the output has the fewest steps and bounds of the levels, with a log that reaches the
  -- budget, or a bound of the steps.
  pub bounded : (settings : SynthSettings) (input : List ℕ) (tables : Words)
      → Runs (LeastDepth settings) r input
      → AreTables input tables
      → r.status ≡ Undecided
      → FindsBounds settings tables r input ⊎ LeavesSteps settings tables r input
  -- For any other input its first fault is reported.
  pub refused : (settings : SynthSettings) (input : List ℕ) (error : SpecError)
      → Runs (LeastDepth settings) r input
      → HasTablesFault input error
      → InputHeld r
      → ReportsError r (synth_refusal error)
