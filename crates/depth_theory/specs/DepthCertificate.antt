-- Depth certificates, and when they are valid.
use Rattle.std.specs.Prelude.{◌≡◌, ℕ, List, length, map, All, Option, Some, None}
use Rattle.std.specs.List.{find}
use Rattle.std.specs.Option.{option_map}
use Rattle.chain_theory.specs.Chain.{Chain}
use Rattle.chain_theory.specs.Levels.{depth}
use Rattle.enc_theory.specs.declared.subproblem.Subproblem.{Subproblem}
use Rattle.enc_theory.specs.declared.subproblem.Subproblem.TheVariants.{Whole, Levels}
use Rattle.settings.specs.declared.methods.Method.TheVariants.{Fence}
use Rattle.cert_theory.specs.declared.data.Verdict.TheVariants.{Minimum}
use Rattle.cert_theory.specs.Certificate.{SubproblemLog, Certificate, IsSubproblemLog, subproblem_of, is_open_end}
use Rattle.cert_theory.specs.Certificate.{IsValid}
use Rattle.depth_theory.specs.declared.data.DepthVerdict.{DepthVerdict}
use Rattle.depth_theory.specs.declared.data.DepthVerdict.TheVariants as verdicts
use Rattle.depth_theory.specs.Flatter.{flatter}

-- a certificate, the logs of the fences with fewer levels than its chain, and the verdict
pub record DepthCertificate : Type 0 where
  pub certificate : Certificate
  pub subproblems : List SubproblemLog
  pub verdict : DepthVerdict

-- the number of levels of a subproblem's fence
abbrev pub subproblem_levels : Subproblem → ℕ
subproblem_levels Whole = 0
subproblem_levels (Levels sizes) = length sizes

-- The number of levels of the first open fence. Since the fences come by levels, no other open one has fewer.
abbrev pub open_levels : List SubproblemLog → Option ℕ
open_levels subproblems = option_map (λ p. subproblem_levels p.subproblem) (find (λ p. is_open_end p.ended) subproblems)

-- the verdict for a chain of `d` levels, given the number of levels of the first open fence
abbrev pub levels_found : Option ℕ → ℕ → DepthVerdict
levels_found None d = verdicts.Levels d
levels_found (Some low) d = verdicts.Bounded low d

-- The certificate at the head is valid, by fences, and its verdict is a minimum. Each listed fence of the chain's
-- size with fewer levels than the chain has a log, in their order, and the verdict follows from them.
-- Example: for x1 AND (x2 OR (x3 AND x4)) the certificate has a chain of three steps on three levels; the one
-- listed fence with fewer levels is 2 1, its log refutes it, and the verdict is Levels 3.
pub record IsDepth (b : DepthCertificate) : Type 0 where
  pub valid : IsValid b.certificate
  pub by_fences : b.certificate.header.method ≡ Fence
  pub chain : Chain
  pub chain_is : b.certificate.chain ≡ Some chain
  pub least : b.certificate.verdict ≡ Minimum (length chain.steps)
  pub subproblems_are : map subproblem_of b.subproblems ≡
      map Levels (flatter b.certificate.header.spec (length chain.steps) (depth chain))
  pub logs : All (IsSubproblemLog b.certificate.header (length chain.steps)) b.subproblems
  pub verdict_is : b.verdict ≡ levels_found (open_levels b.subproblems) (depth chain)
