-- Whole logs: when a log refutes a formula, and when it has reached a budget without a refutation.
use Rattle.std.specs.Prelude.{◌≡◌, ℕ, ◌+◌, ◌*◌, ◌<◌, ◌≤◌, ◌⊎◌, ℤ, List, [], ◌∷◌, length, Contains, All, Any, count_by}
use Rattle.std.specs.Prelude.{is_some, Option, Some}
use Rattle.sat_theory.specs.Formula.{Formula}
use Rattle.sat_theory.specs.Line.{Line, Add, Delete, IsLine, IsAdding}
use Rattle.sat_theory.specs.State.{State, start, next}
use Rattle.sat_theory.specs.Holding.{Holds}
use Rattle.sat_theory.specs.Limits.{slack}

unfoldable pub after : State → List Line → State
after s [] = s
after s (l ∷ ls) = after (next s l) ls

-- P holds for each line and the state before it
unfoldable pub EachLine : (State → Line → Type 0) → State → List Line → Type 0
EachLine P s [] = Unit {0}
EachLine P s (l ∷ ls) = P s l × EachLine P (next s l) ls

pub record IsStep (s : State) (line : Line) : Type 0 where
  pub is_line : IsLine line
  pub holds : Holds s line

-- Each line can be written, and holds in the state after the lines before it.
abbrev pub LogHolds : Formula → List Line → Type 0
LogHolds f lines = EachLine IsStep (start f) lines

abbrev pub AddsEmpty : Line → Type 0
AddsEmpty (Add id lits hints) = lits ≡ []
AddsEmpty (Delete id ids) = ⊥

-- the empty clause is in the formula, or is added
abbrev pub HasEmpty : Formula → List Line → Type 0
HasEmpty f lines = Contains f.clauses [] ⊎ Any AddsEmpty lines

-- A log refutes a formula if all its lines hold and it reaches the empty clause.
-- Example: the lines 5: 2 by 1, 2 and 6: (empty) by 5, 3, 4 refute the clauses 1: 1, 2 and 2: -1, 2
-- and 3: 1, -2 and 4: -1, -2.
pub record Refutes (f : Formula) (lines : List Line) : Type 0 where
  pub holds : LogHolds f lines
  pub reaches : HasEmpty f lines

-- A clause is unsubsumed if no live clause subsumes it, that is, has all its literals in the clause.
-- Example: if the only live clause is 1, 2, then 1, 3 is unsubsumed, and 1, 2, 3 is not.
abbrev pub IsUnsubsumed : (ℕ → Option (List ℤ)) → List ℤ → Type 0
IsUnsubsumed live lits = (id : ℕ) (clause : List ℤ) → live id ≡ Some clause → All (Contains lits) clause → ⊥

-- if the line is an addition, its clause is unsubsumed
abbrev pub AddsUnsubsumed : State → Line → Type 0
AddsUnsubsumed s (Add id lits hints) = IsUnsubsumed s.live lits
AddsUnsubsumed s (Delete id ids) = Unit {0}

-- the ids of a log's additions, in order
unfoldable pub added_ids : List Line → List ℕ
added_ids [] = []
added_ids (Add id lits hints ∷ ls) = id ∷ added_ids ls
added_ids (Delete id ids ∷ ls) = added_ids ls

-- how many clauses a log adds
abbrev pub additions : List Line → ℕ
additions lines = length (added_ids lines)

-- how many of the log's additions are live in a state
abbrev pub live_additions : State → List Line → ℕ
live_additions s lines = count_by (λ id. is_some (s.live id)) (added_ids lines)

-- A log reaches a budget on a formula if its lines hold, it doesn't reach the empty clause, and it has at least
-- `budget` additions, each of an unsubsumed clause.
pub record ReachesBudget (f : Formula) (lines : List Line) (budget : ℕ) : Type 0 where
  pub holds : LogHolds f lines
  pub open_yet : HasEmpty f lines → ⊥
  pub enough : budget ≤ additions lines
  pub fresh : EachLine AddsUnsubsumed (start f) lines

-- At the end of the log, at least half of its additions are live.
abbrev pub KeepsHalf : Formula → List Line → Type 0
KeepsHalf f lines = additions lines ≤ 2 * live_additions (after (start f) lines) lines

-- a deletion has no id of a clause of the formula (those are 1 to the number of clauses)
abbrev pub SparesFormula : Formula → Line → Type 0
SparesFormula f (Add id lits hints) = Unit {0}
SparesFormula f (Delete id ids) = All (λ k. length f.clauses < k) ids

-- A log deletes a quarter if it deletes nothing but its own additions, and at its end at most about three quarters
-- of them are live: 3/4 of the additions, and vars + slack more.
pub record BoundsLiveAdditions (f : Formula) (lines : List Line) : Type 0 where
  pub spares : All (SparesFormula f) lines
  pub few : 4 * live_additions (after (start f) lines) lines ≤ 3 * additions lines + 4 * f.vars + 4 * slack

-- the log deletes nothing
abbrev pub DeletesNothing : List Line → Type 0
DeletesNothing lines = All IsAdding lines
