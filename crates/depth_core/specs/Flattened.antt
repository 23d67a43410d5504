-- The results of the search for fewer levels.
use Rattle.std.specs.Prelude.{◌≡◌, ℕ, ◌==◌, Bool, nat_lt, List, length, map, All, Option, Some, None}
use Rattle.chain_theory.specs.Chain.{Chain}
use Rattle.chain_theory.specs.Levels.{HasLevels, depth}
use Rattle.enc_theory.specs.declared.subproblem.Subproblem.{Subproblem}
use Rattle.enc_theory.specs.declared.subproblem.Subproblem.TheVariants.{Levels}
use Rattle.cert_theory.specs.declared.data.Header.{Header}
use Rattle.cert_theory.specs.declared.data.Verdict.{Verdict}
use Rattle.cert_theory.specs.declared.data.Verdict.TheVariants as verdicts
use Rattle.cert_theory.specs.Certificate.{SubproblemLog, Section, Certificate, IsSubproblemLog, IsFound, IsValid}
use Rattle.size_loop.specs.declared.trying.SubproblemOutcome.{SubproblemOutcome}
use Rattle.size_loop.specs.declared.trying.SubproblemOutcome.TheVariants as subproblems
use Rattle.size_loop.specs.Outcomes.{AreLogged}
use Rattle.cert_theory.specs.LiveBounds.{HasLiveBounds, HaveLiveBounds}
use Rattle.depth_theory.specs.Flatter.{fences_for, of_levels, flatter}
use Rattle.depth_theory.specs.DepthCertificate.{DepthCertificate, subproblem_levels, IsDepth}
use Rattle.depth_core.specs.declared.levels.LevelOutcome.{LevelOutcome}
use Rattle.depth_core.specs.declared.levels.LevelOutcome.TheVariants as levels
use Rattle.depth_core.specs.declared.searching.DepthResult.{DepthResult}
use Rattle.depth_core.specs.declared.searching.DepthResult.TheVariants.{Least, Other}

-- whether the fence of a subproblem has k levels
abbrev pub at_level : ℕ → Subproblem → Bool
at_level k subproblem = subproblem_levels subproblem == k

-- whether the fence of a log has fewer than d levels
abbrev pub is_flatter : ℕ → SubproblemLog → Bool
is_flatter d p = nat_lt (subproblem_levels p.subproblem) d

-- a chain with at most the levels of the subproblem's fence; or the subproblem's log, which ends as it states,
-- with its bounds on live additions
abbrev pub IsTriedLow : Header → ℕ → Subproblem → SubproblemOutcome → Type 0
IsTriedLow h size subproblem (subproblems.Found c) = IsFound h size c × HasLevels (subproblem_levels subproblem) c
IsTriedLow h size subproblem (subproblems.Logged p) =
    (p.subproblem ≡ subproblem) × IsSubproblemLog h size p × HasLiveBounds h size p

-- the logs of fences, in their order, with their bounds on live additions
abbrev pub AreLogs : Header → ℕ → List (List ℕ) → List SubproblemLog → Type 0
AreLogs h size fences logs = AreLogged h size (map Levels fences) logs

-- for the fences with k levels: a chain with at most k levels, or their logs
abbrev pub IsLevel : Header → ℕ → ℕ → LevelOutcome → Type 0
IsLevel h size k (levels.Found c) = IsFound h size c × HasLevels k c
IsLevel h size k (levels.Logged logs) = AreLogs h size (of_levels (fences_for h.spec size) k) logs.items

-- a chain, and the logs of all fences with fewer levels
pub record IsFlattest (h : Header) (size : ℕ) (c : Chain) (logs : List SubproblemLog) : Type 0 where
  pub found : IsFound h size c
  pub logged : AreLogs h size (flatter h.spec size (depth c)) logs

-- the sections and the chain of a certificate whose verdict is a minimum of `size` steps
pub record AreSearched (h : Header) (sections : List Section) (c : Chain) (size : ℕ) : Type 0 where
  pub valid : IsValid (record { header = h; sections = sections; chain = Some c; verdict = verdicts.Minimum size })
  pub live_bounds : HaveLiveBounds h sections

-- a depth certificate for the header, with the bounds on live additions of its logs
pub record IsLeast (h : Header) (b : DepthCertificate) : Type 0 where
  pub header : b.certificate.header ≡ h
  pub is_depth : IsDepth b
  pub live_bounds : HaveLiveBounds h b.certificate.sections
  pub subproblems_live_bounds : All (HasLiveBounds h (length b.certificate.sections)) b.subproblems

-- the fewest steps, if a verdict is a minimum
abbrev pub minimum_of : Verdict → Option ℕ
minimum_of (verdicts.Minimum r) = Some r
minimum_of (verdicts.NoChain x) = None
minimum_of (verdicts.Bounded low r) = None
minimum_of (verdicts.Open low) = None

-- a valid certificate for the header whose verdict isn't a minimum, with the bounds on live additions of its logs
pub record IsOther (h : Header) (b : Certificate) : Type 0 where
  pub header : b.header ≡ h
  pub valid : IsValid b
  pub live_bounds : HaveLiveBounds h b.sections
  pub no_minimum : minimum_of b.verdict ≡ None

abbrev pub IsDepthResult : Header → DepthResult → Type 0
IsDepthResult h (Least b) = IsLeast h b
IsDepthResult h (Other b) = IsOther h b
