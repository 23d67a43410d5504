-- The promise of `recheck --depth yes`, besides that of every command.
use Rattle.std.specs.Prelude.{◌≡◌, ℕ, List}
use Rattle.command_line.specs.declared.command.Command.TheVariants.{RecheckDepth}
use Rattle.tt_core.specs.Words.{Words, specification}
use Rattle.op_basis.specs.Basis.{members}
use Rattle.cert_theory.specs.Question.{HasQuestion}
use Rattle.depth_theory.specs.declared.data.DepthVerdict.{DepthVerdict}
use Rattle.depth_theory.specs.declared.data.DepthVerdict.TheVariants.{Bounded}
use Rattle.depth_theory.specs.DepthCertificate.{DepthCertificate}
use Rattle.depth_theory.specs.DepthSpelling.{IsDepthText}
use Rattle.depth_theory.specs.DepthMeaning.{Means}
use Rattle.depth_file.specs.BudgetReached.{IsLeftOpen}
use Rattle.cmd_recheck.specs.RecheckDepthReport.{depth_reply, depth_task}
use Rattle.cmd_recheck.specs.Rechecks.{Rechecks}
use Rattle.depth_theory.specs.Verdicts.{GivesLevels}
use Rattle.frame_core.specs.Run.{Run}
use Rattle.frame_core.specs.Promise.{Stands}

-- The verdict of the bytes was written to the output. After their first line the bytes spell tables and a basis.
-- For whatever tables and basis they spell there: `steps` is the least number of steps; some chain of `steps`
-- steps has the levels of the verdict; and none has fewer levels, or fewer than the lower number if the verdict
-- has two. In that case the bytes have a log of a fence with the lower number of levels that reaches the budget.
pub record ReportsLevels (r : Run) (input : List ℕ) : Type 0 where
  pub verdict : DepthVerdict
  pub has : GivesLevels input verdict
  pub stands : Stands r (depth_reply verdict)
  pub asks : (tables : Words) × (basis : ℕ) × HasQuestion input tables basis
  pub steps : ℕ
  pub means : (tables : Words) (basis : ℕ)
      → HasQuestion input tables basis
      → Means (specification tables) (members basis) steps verdict
  pub spent : (low d : ℕ)
      → verdict ≡ Bounded low d
      → IsLeftOpen input has.has.certificate.certificate.header steps low

-- The promise for certificates of the fewest levels.
abbrev pub RecheckDepthPromise : Run → Type 0
RecheckDepthPromise r = Rechecks RecheckDepth depth_task IsDepthText
    (λ (b : DepthCertificate). b.verdict) ReportsLevels r
