-- The text of a depth certificate, piece by piece.
use Rattle.std.specs.Prelude.{ℕ, List}
use Rattle.cert_theory.specs.Certificate.{SubproblemLog, Certificate}
use Rattle.depth_theory.specs.declared.data.DepthVerdict.{DepthVerdict}
use Rattle.depth_theory.specs.DepthSpelling.{depth_text}

unfoldable pub whole_text : Certificate → List SubproblemLog → DepthVerdict → List ℕ
whole_text certificate subproblems verdict = depth_text (record { certificate = certificate; subproblems = subproblems; verdict = verdict })
