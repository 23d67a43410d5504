-- Resolution from a conflict back over the trail: the marked literals are the current resolvent.
use Rattle.std.specs.Prelude.{◌≡◌, ◌≢◌, ℕ, ◌+◌, ◌*◌, ◌<◌, ◌≤◌, ◌⊎◌, ℤ, Bool, true, false, List, length, slice_index_or, Contains, All, AllPairs, Option, Some}
use Rattle.sat_theory.specs.Formula.{opposite}
use Rattle.cdcl_theory.specs.Codes.{marked_in}
use Rattle.cdcl_theory.specs.Trails.{TrailState, falsified_at}
use Rattle.cdcl_theory.specs.Resolving.{IsResolvent}
use Rattle.trail_core.specs.Values.{IsOver}

-- exactly the false literals of a list were marked
pub record AreMarked (positions : ℤ → ℕ) (lits : List ℤ) (old new : List Bool) : Type 0 where
  pub stay : (m : ℤ) → marked_in old m ≡ true → marked_in new m ≡ true
  pub there : All (λ m. 0 < positions m → marked_in new m ≡ true) lits
  pub only : (m : ℤ) → marked_in new m ≡ true → (marked_in old m ≡ true) ⊎ (Contains lits m × (0 < positions m))

-- exactly the false literals of the clause with this id were marked
pub record IsMarkedBy (live : ℕ → Option (List ℤ)) (positions : ℤ → ℕ) (id : ℕ) (old new : List Bool) : Type 0 where
  pub clause : List ℤ
  pub is_live : live id ≡ Some clause
  pub marked : AreMarked positions clause old new

-- no literal whose opposite is at a trail index from low to high is marked
abbrev pub NoneMarked : TrailState → List Bool → ℕ → ℕ → Type 0
NoneMarked t marks low high = (p : ℕ) (d : ℤ) → low ≤ p → p < high → marked_in marks (opposite (slice_index_or t.lits p d)) ≡ true → ⊥

abbrev pub HasRoom : ℕ → List Bool → Type 0
HasRoom vars marks = length marks ≡ 2 * vars + 2

-- the list, whose variables are in range, contains all marked literals
pub record IsListed (vars : ℕ) (marks : List Bool) (touched : List ℤ) : Type 0 where
  pub room : HasRoom vars marks
  pub over : All (IsOver vars) touched
  pub all : (m : ℤ) → marked_in marks m ≡ true → Contains touched m

-- The clause of the marked literals, all of which are false, follows by the ids used.
pub record IsResolution (live : ℕ → Option (List ℤ)) (t : TrailState) (marks : List Bool) (touched : List ℤ) (ids : List ℕ) : Type 0 where
  pub resolvent : IsResolvent live (falsified_at t) (length t.lits) (marked_in marks) ids
  pub listed : IsListed t.vars marks touched

-- nothing is marked
pub record IsClear (vars : ℕ) (marks : List Bool) : Type 0 where
  pub none : (m : ℤ) → marked_in marks m ≡ false
  pub room : HasRoom vars marks

-- The literals of a list were unmarked, and those that had been marked are gathered, each once.
pub record AreGathered (lits : List ℤ) (old new : List Bool) (gathered : List ℤ) : Type 0 where
  pub was : (m : ℤ) → marked_in new m ≡ true → marked_in old m ≡ true
  pub gone : (m : ℤ) → marked_in new m ≡ true → Contains lits m → ⊥
  pub inside : All (λ m. Contains lits m × (marked_in old m ≡ true)) gathered
  pub all : (m : ℤ) → marked_in old m ≡ true → (marked_in new m ≡ true) ⊎ Contains gathered m
  pub differ : AllPairs (λ a b. a ≢ b) gathered

-- the list has the marked literals except `first`, each once
pub record AreOthers (vars : ℕ) (marks : List Bool) (first : ℤ) (others : List ℤ) : Type 0 where
  pub over : All (IsOver vars) others
  pub inside : All (λ m. (marked_in marks m ≡ true) × (m ≢ first)) others
  pub all : (m : ℤ) → marked_in marks m ≡ true → (m ≡ first) ⊎ Contains others m
  pub differ : AllPairs (λ a b. a ≢ b) others

-- p is the last trail index from low to high with a marked literal
pub record IsLastMarked (t : TrailState) (marks : List Bool) (low high p : ℕ) : Type 0 where
  pub after : low ≤ p
  pub before : p < high
  pub there : (d : ℤ) → marked_in marks (opposite (slice_index_or t.lits p d)) ≡ true
  pub last : NoneMarked t marks (p + 1) high

-- the literal falsified at trail index p is unmarked, and of the others only those falsified before may be
-- newly marked
pub record IsReplaced (t : TrailState) (p : ℕ) (old new : List Bool) : Type 0 where
  pub stay : (m : ℤ) → marked_in old m ≡ true → (falsified_at t m ≡ p + 1) ⊎ (marked_in new m ≡ true)
  pub only : (m : ℤ) → marked_in new m ≡ true → (falsified_at t m ≤ p) ⊎ ((marked_in old m ≡ true) × (falsified_at t m ≢ p + 1))

-- the marked literals at positions up to p stay marked
abbrev pub StayBelow : TrailState → ℕ → List Bool → List Bool → Type 0
StayBelow t p old new = (m : ℤ) → falsified_at t m ≤ p → marked_in old m ≡ true → marked_in new m ≡ true

-- only literals at positions up to p were newly marked
abbrev pub OnlyBelow : TrailState → ℕ → List Bool → List Bool → Type 0
OnlyBelow t p old new = (m : ℤ) → marked_in new m ≡ true → (marked_in old m ≡ true) ⊎ (falsified_at t m ≤ p)

-- no literal was newly marked
abbrev pub AreFewer : List Bool → List Bool → Type 0
AreFewer old new = (m : ℤ) → marked_in new m ≡ true → marked_in old m ≡ true

-- all literals of the clause of an id are marked
abbrev pub IsMarkedClause : (ℕ → Option (List ℤ)) → List Bool → ℕ → Type 0
IsMarkedClause live marks id = (clause : List ℤ) → live id ≡ Some clause → All (λ m. marked_in marks m ≡ true) clause

-- one of the literals has the position p
abbrev pub HasFalsifiedAt : (ℤ → ℕ) → List ℤ → ℕ → Type 0
HasFalsifiedAt positions lits p = (w : ℤ) × Contains lits w × (positions w ≡ p)
