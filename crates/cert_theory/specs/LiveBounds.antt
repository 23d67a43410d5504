-- Bounds on a search's logs, which keep them short and cheap to check. An open log keeps at least half of its
-- additions live (a refuting log needn't), and every log bounds its live additions: at most about three quarters are
-- live at the end. The budget bounds the additions of every log.
use Rattle.std.specs.Prelude.{ℕ, ◌+◌, ◌≤◌, List, All}
use Rattle.sat_theory.specs.Log.{additions, HasEmpty, KeepsHalf, BoundsLiveAdditions}
use Rattle.sat_solve.specs.Answering.{most_past}
use Rattle.cert_theory.specs.declared.data.Header.{Header}
use Rattle.cert_theory.specs.Certificate.{SubproblemLog, Section, formula_of}

-- the bounds of a subproblem's log, over its formula
pub record HasLiveBounds (h : Header) (size : ℕ) (p : SubproblemLog) : Type 0 where
  pub kept : (HasEmpty (formula_of h size p.subproblem) p.log → ⊥) → KeepsHalf (formula_of h size p.subproblem) p.log
  pub live_bounded : BoundsLiveAdditions (formula_of h size p.subproblem) p.log
  pub within_budget : additions p.log ≤ h.conflicts + most_past (formula_of h size p.subproblem)

-- the bounds of all logs of a section
pub record HasLiveBoundsIn (h : Header) (s : Section) : Type 0 where
  pub logs : All (HasLiveBounds h s.size) s.subproblems

abbrev pub HaveLiveBounds : Header → List Section → Type 0
HaveLiveBounds h sections = All (HasLiveBoundsIn h) sections
