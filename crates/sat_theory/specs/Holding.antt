-- When a line of a log holds. Additions are checked by reverse unit propagation (RUP) along their hints.
use Rattle.std.specs.Prelude.{◌≡◌, ◌≢◌, ℕ, ◌<◌, ◌⊎◌, ℤ, Bool, true, false, ◌||◌, List, [], ◌∷◌, Contains, All, AllPairs}
use Rattle.std.specs.Prelude.{Option, Some, IsSome}
use Rattle.std.specs.List.{list_any}
use Rattle.std.specs.Ordering.{int_eq}
use Rattle.sat_theory.specs.Formula.{opposite, IsWithin}
use Rattle.sat_theory.specs.Line.{Line, Add, Delete}
use Rattle.sat_theory.specs.State.{State}

-- A set of literals is given by its membership test: here for the literals of a list, and for a set with one more
-- literal.
abbrev pub among : List ℤ → ℤ → Bool
among lits l = list_any (λ m. int_eq l m) lits

abbrev pub with_literal : (ℤ → Bool) → ℤ → ℤ → Bool
with_literal set l m = int_eq m l || set m

-- l is the only literal of the clause outside the set
pub record IsUnitOutside (set : ℤ → Bool) (clause : List ℤ) (l : ℤ) : Type 0 where
  pub there : Contains clause l
  pub outside : set l ≡ false
  pub others : All (λ m. (m ≡ l) ⊎ (set m ≡ true)) clause

-- `set` is the set of falsified literals. Each hint but the last is the id of a live clause that is unit: its
-- only literal outside the set has to be true, so the opposite of that literal joins the set. The last hint is
-- the id of a live clause with no literal outside the set: a conflict.
-- Example: of the clauses 1: 1, 2 and 2: -1, 2, the hints 1, 2 hold from the set of the literal 2.
-- Clause 1 has the literal 1 outside, so -1 joins the set, and clause 2 has no literal outside.
unfoldable pub HintsHold : (ℕ → Option (List ℤ)) → (ℤ → Bool) → List ℕ → Type 0
HintsHold live set [] = ⊥
HintsHold live set (hint ∷ []) = (clause : List ℤ) × (live hint ≡ Some clause) × All (λ m. set m ≡ true) clause
HintsHold live set (hint ∷ more ∷ hints) = (clause : List ℤ) × (l : ℤ) × (live hint ≡ Some clause) ×
    IsUnitOutside set clause l × HintsHold live (with_literal set (opposite l)) (more ∷ hints)

-- An addition holds if its id is greater than all ids before, its variables are variables of the formula, and its
-- hints hold from the set of its own literals.
pub record AdditionHolds (s : State) (id : ℕ) (lits : List ℤ) (hints : List ℕ) : Type 0 where
  pub greater : s.greatest < id
  pub variables : IsWithin s.vars lits
  pub hints_hold : HintsHold s.live (among lits) hints

-- a deletion holds if its ids are live and different
pub record DeletionHolds (live : ℕ → Option (List ℤ)) (ids : List ℕ) : Type 0 where
  pub all_live : All (λ id. IsSome (live id)) ids
  pub differ : AllPairs (λ a b. a ≢ b) ids

abbrev pub Holds : State → Line → Type 0
Holds s (Add id lits hints) = AdditionHolds s id lits hints
Holds s (Delete id ids) = DeletionHolds s.live ids
