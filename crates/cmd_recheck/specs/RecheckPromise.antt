-- The promise of `recheck`, besides that of every command.
use Rattle.std.specs.Prelude.{ℕ, List}
use Rattle.command_line.specs.declared.command.Command.TheVariants.{Recheck}
use Rattle.tt_core.specs.Words.{Words, specification}
use Rattle.op_basis.specs.Basis.{members}
use Rattle.cert_theory.specs.declared.data.Verdict.{Verdict}
use Rattle.cert_theory.specs.Certificate.{Certificate}
use Rattle.cert_theory.specs.Meaning.{Means}
use Rattle.cert_theory.specs.Spelling.{IsCertificateText}
use Rattle.cert_theory.specs.Question.{HasQuestion}
use Rattle.depth_theory.specs.Verdicts.{GivesVerdict}
use Rattle.cmd_recheck.specs.RecheckReport.{recheck_reply, recheck_task}
use Rattle.cmd_recheck.specs.Rechecks.{Rechecks}
use Rattle.frame_core.specs.Run.{Run}
use Rattle.frame_core.specs.Promise.{Stands}

-- The verdict of the bytes was written to the output. After their first line the bytes spell tables and a basis,
-- and what the verdict says about all chains is true for whatever tables and basis they spell there.
pub record ReportsVerdict (r : Run) (input : List ℕ) : Type 0 where
  pub verdict : Verdict
  pub has : GivesVerdict input verdict
  pub stands : Stands r (recheck_reply verdict)
  pub asks : (tables : Words) × (basis : ℕ) × HasQuestion input tables basis
  pub means : (tables : Words) (basis : ℕ)
      → HasQuestion input tables basis
      → Means (specification tables) (members basis) verdict

-- The promise for certificates of the fewest steps.
abbrev pub RecheckPromise : Run → Type 0
RecheckPromise r = Rechecks Recheck recheck_task IsCertificateText (λ (b : Certificate). b.verdict) ReportsVerdict r
