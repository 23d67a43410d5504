-- The results of a subproblem and of a size.
use Rattle.std.specs.Prelude.{◌≡◌, ℕ, Bool, true, false, List, [], ◌∷◌, ◌++◌, length, map, All, Option, Some, None}
use Rattle.settings.specs.declared.methods.Method.{Method}
use Rattle.chain_theory.specs.Chain.{Chain}
use Rattle.enc_theory.specs.declared.subproblem.Subproblem.{Subproblem}
use Rattle.enc_theory.specs.Subproblems.{FitsSubproblem}
use Rattle.cert_theory.specs.declared.data.Header.{Header}
use Rattle.cert_theory.specs.Certificate.{SubproblemLog, IsSubproblemLog, subproblem_of, IsSection, IsFound, stops_after, tried}
use Rattle.size_loop.specs.declared.trying.SubproblemOutcome.{SubproblemOutcome}
use Rattle.size_loop.specs.declared.trying.SubproblemOutcome.TheVariants as subproblems
use Rattle.size_loop.specs.declared.sizes.SizeOutcome.{SizeOutcome}
use Rattle.size_loop.specs.declared.sizes.SizeOutcome.TheVariants as sizes
use Rattle.cert_theory.specs.LiveBounds.{HasLiveBounds, HasLiveBoundsIn}

-- A chain of the size that fits the subproblem; or the subproblem's log, which ends as it states, with its bounds
-- on live additions.
abbrev pub IsTried : Header → ℕ → Subproblem → SubproblemOutcome → Type 0
IsTried h size subproblem (subproblems.Found c) = IsFound h size c × FitsSubproblem subproblem c
IsTried h size subproblem (subproblems.Logged p) = (p.subproblem ≡ subproblem) × IsSubproblemLog h size p × HasLiveBounds h size p

-- the logs of subproblems, in their order
pub record AreLogged (h : Header) (size : ℕ) (subproblems : List Subproblem) (logs : List SubproblemLog) : Type 0 where
  pub subproblems_are : map subproblem_of logs ≡ subproblems
  pub ends : All (IsSubproblemLog h size) logs
  pub live_bounds : All (HasLiveBounds h size) logs

-- the search of a size goes on after each of the logs
unfoldable pub GoesOn : Method → List SubproblemLog → Type 0
GoesOn method [] = Unit {0}
GoesOn method (p ∷ ps) = (stops_after method p.ended ≡ false) × GoesOn method ps

-- Where the search goes on, these subproblems have the logs; where it stopped, the logs are all that are tried, whatever
-- subproblems follow.
abbrev pub HasTried : Method → List Subproblem → List SubproblemLog → Bool → Type 0
HasTried method subproblems logs false = (map subproblem_of logs ≡ subproblems) × GoesOn method logs
HasTried method subproblems logs true = (later : List Subproblem) → map subproblem_of logs ≡ tried method (subproblems ++ later) logs

-- the logs of the subproblems of a size so far, and whether the search of the size stopped
pub record AreTried (h : Header) (size : ℕ) (subproblems : List Subproblem) (logs : List SubproblemLog) (stopped : Bool) : Type 0 where
  pub tried_so_far : HasTried h.method subproblems logs stopped
  pub ends : All (IsSubproblemLog h size) logs
  pub live_bounds : All (HasLiveBounds h size) logs

-- A chain of the size, or its section.
abbrev pub IsSized : Header → ℕ → SizeOutcome → Type 0
IsSized h size (sizes.Found c) = IsFound h size c
IsSized h size (sizes.Logged s) = IsSection h size s × HasLiveBoundsIn h s

-- the chain that is known before its size comes, if any: it implements the tables, and its size is in the range of
-- the search
abbrev pub IsKnown : Header → Option Chain → Type 0
IsKnown h None = Unit {0}
IsKnown h (Some c) = IsFound h (length c.steps) c

-- there is a chain, and it has `size` steps
abbrev pub HasSize : ℕ → Option Chain → Type 0
HasSize size None = ⊥
HasSize size (Some c) = length c.steps ≡ size
