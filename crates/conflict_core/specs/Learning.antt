-- The result of the analysis of a conflict.
use Rattle.std.specs.Prelude.{◌≡◌, ◌≢◌, ℕ, ◌+◌, ◌<◌, ◌≤◌, ◌⊎◌, ℤ, pos, List, length, slice_index_or, Contains, All, Option}
use Rattle.std.specs.List.{swap}
use Rattle.sat_theory.specs.Formula.{IsClause, IsWithin}
use Rattle.sat_theory.specs.Holding.{among, HintsHold}
use Rattle.cdcl_theory.specs.Propagation.{IsFalsifiedUpTo, IsClosed, IsFalsified, IsUnitUnder}
use Rattle.cdcl_theory.specs.Trails.{TrailState, falsified_at, HasReason, IsExplained}
use Rattle.conflict_core.specs.declared.analysis.Analysis.{Analysis}
use Rattle.conflict_core.specs.declared.resolution.Resolution.{Resolution}
use Rattle.conflict_core.specs.Markings.{IsClear, IsResolution}

-- the invariant of the resolution, on the fields of a `Resolution`
abbrev pub IsResolutionOf : (ℕ → Option (List ℤ)) → TrailState → Resolution → Type 0
IsResolutionOf live t w = IsResolution live t w.marks w.touched.items w.hints.items

-- no mark is left over from an earlier conflict, and the tables have room for all variables
pub record IsReady (vars : ℕ) (a : Analysis) : Type 0 where
  pub clear : IsClear vars a.resolution.marks
  pub touched : IsWithin vars a.resolution.touched.items
  pub verdicts : length a.redundancy.verdicts.items ≡ vars + 1

-- each literal from a trail index on has a reason
abbrev pub HaveReasons : (ℕ → Option (List ℤ)) → TrailState → ℕ → Type 0
HaveReasons live t from = (p : ℕ) → from ≤ p → p < length t.lits → HasReason live t p

-- a clause that is falsified in the level that begins at trail index `start`, with all that the analysis of
-- this level needs
pub record IsConflict (live : ℕ → Option (List ℤ)) (t : TrailState) (start conflict : ℕ) : Type 0 where
  pub level : start < length t.lits
  pub closed : IsClosed live (falsified_at t) start
  pub reasons : HaveReasons live t (start + 1)
  pub explained : IsExplained live t
  pub is_falsified : IsFalsified live (falsified_at t) conflict

-- the asserting literal of a learnt clause, which became false last
abbrev pub asserting : List ℤ → ℤ
asserting lits = slice_index_or lits 0 (pos 0)

-- A literal at position `back`, if there is one, was swapped to the front; otherwise the list is unchanged.
abbrev pub IsMovedToFront : (ℤ → ℕ) → ℕ → List ℤ → List ℤ → Type 0
IsMovedToFront positions back old new = ((i : ℕ) × (i < length old) × (new ≡ swap old 0 i) × ((d : ℤ) → positions (slice_index_or old i d) ≡ back)) ⊎ ((new ≡ old) × All (λ l. positions l ≢ back) old)

-- The clause learnt from a conflict in the level that begins at trail index `start`: its first literal became
-- false in the level, all others at positions up to `back`, the position of the second one; back is 0 if
-- there is no other. Backtracking to a length from `back` to `start` makes the clause unit.
pub record IsLearnt (live : ℕ → Option (List ℤ)) (t : TrailState) (start : ℕ) (lits : List ℤ) (back : ℕ) (hints : List ℕ) : Type 0 where
  pub some : 0 < length lits
  pub after : start < falsified_at t (asserting lits)
  pub low : back ≤ start
  pub unit : IsUnitUnder (falsified_at t) start lits (asserting lits)
  pub others : All (λ l. (l ≡ asserting lits) ⊎ IsFalsifiedUpTo (falsified_at t) back l) lits
  pub second : 0 < back → (w : ℤ) × Contains lits w × (falsified_at t w ≡ back)
  pub next : (d : ℤ) → 1 < length lits → falsified_at t (slice_index_or lits 1 d) ≡ back
  pub clause : IsClause lits
  pub variables : IsWithin t.vars lits
  pub hold : HintsHold live (among lits) hints
