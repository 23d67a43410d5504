-- Unit propagation as positions of false literals. A literal becomes false when its opposite is assigned. Its
-- position is 1 + the trail index of that opposite: 1 for the first false literal, 2 for the next, and 0 for
-- a literal that isn't false. The functions below map a literal to its position.
use Rattle.std.specs.Prelude.{◌≡◌, ℕ, ◌<◌, ◌≤◌, ◌⊎◌, ℤ, List, Contains, All, Option, Some}
use Rattle.sat_theory.specs.Formula.{opposite}

-- l is false, at a position up to p
abbrev pub IsFalsifiedUpTo : (ℤ → ℕ) → ℕ → ℤ → Type 0
IsFalsifiedUpTo falsified_at p l = (0 < falsified_at l) × (falsified_at l ≤ p)

-- in the state of the first p assignments the variable of l has no value
pub record HasNoValue (falsified_at : ℤ → ℕ) (p : ℕ) (l : ℤ) : Type 0 where
  pub not_false : IsFalsifiedUpTo falsified_at p l → ⊥
  pub not_true : IsFalsifiedUpTo falsified_at p (opposite l) → ⊥

-- The state of the first p assignments is closed if no live clause is falsified in it, and none is unit (all
-- literals but one are false, and that one has no value): unit propagation is complete.
-- Example: with the one live clause 1, 2 it is closed while neither is false. Once 2 is false it isn't, since
-- 1 follows. A falsified clause is excluded by any u without a value; there always is one, since there are
-- infinitely many variables.
pub record IsClosed (live : ℕ → Option (List ℤ)) (falsified_at : ℤ → ℕ) (p : ℕ) : Type 0 where
  pub excludes : (u : ℤ) → HasNoValue falsified_at p u → (id : ℕ) (clause : List ℤ) → live id ≡ Some clause → All (λ l. (l ≡ u) ⊎ IsFalsifiedUpTo falsified_at p l) clause → ⊥

-- all literals but u are false at positions up to p, and u has no value then: the clause is unit
pub record IsUnitUnder (falsified_at : ℤ → ℕ) (p : ℕ) (lits : List ℤ) (u : ℤ) : Type 0 where
  pub free : HasNoValue falsified_at p u
  pub others : All (λ l. (l ≡ u) ⊎ IsFalsifiedUpTo falsified_at p l) lits

-- The clause with this id is the reason of l (its antecedent): its other literals are false at positions up
-- to p.
pub record Implies (live : ℕ → Option (List ℤ)) (falsified_at : ℤ → ℕ) (p : ℕ) (l : ℤ) (id : ℕ) : Type 0 where
  pub clause : List ℤ
  pub is_live : live id ≡ Some clause
  pub there : Contains clause l
  pub others : All (λ m. (m ≡ l) ⊎ IsFalsifiedUpTo falsified_at p m) clause

-- the same literals are false at positions up to n, each at the same position
pub record SameFalsified (n : ℕ) (f g : ℤ → ℕ) : Type 0 where
  pub there : (p : ℕ) (l : ℤ) → p ≤ n → IsFalsifiedUpTo f p l → IsFalsifiedUpTo g p l
  pub back : (p : ℕ) (l : ℤ) → p ≤ n → IsFalsifiedUpTo g p l → IsFalsifiedUpTo f p l

-- A clause is settled where it is neither falsified nor unit.
pub record IsSettled (falsified_at : ℤ → ℕ) (clause : List ℤ) : Type 0 where
  pub not_false : All (λ l. 0 < falsified_at l) clause → ⊥
  pub not_unit : (u : ℤ) → falsified_at u ≡ 0 → falsified_at (opposite u) ≡ 0 → All (λ l. (l ≡ u) ⊎ (0 < falsified_at l)) clause → ⊥

-- all live clauses are settled
pub record AllSettled (live : ℕ → Option (List ℤ)) (falsified_at : ℤ → ℕ) : Type 0 where
  pub each : (id : ℕ) (clause : List ℤ) → live id ≡ Some clause → IsSettled falsified_at clause

-- the clause of an id is live and falsified
pub record IsFalsified (live : ℕ → Option (List ℤ)) (falsified_at : ℤ → ℕ) (id : ℕ) : Type 0 where
  pub clause : List ℤ
  pub is_live : live id ≡ Some clause
  pub falsified : All (λ l. 0 < falsified_at l) clause
