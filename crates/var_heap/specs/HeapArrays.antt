-- The list of variables and their places, and when it is a heap.
use Rattle.std.specs.Prelude.{◌≡◌, ◌≢◌, ℕ, ◌+◌, ◌*◌, ◌<◌, ◌≤◌, ◌==◌, List, length, count_by}
use Rattle.var_heap.specs.declared.array.HeapArray.{HeapArray}
use Rattle.var_heap.specs.Entries.{entry, marks_of}

-- the variable at a place, and the place of a variable
abbrev pub at : HeapArray → ℕ → ℕ
at r = entry r.heap.items

abbrev pub place : HeapArray → ℕ → ℕ
place r = entry r.places.items

-- Each place from 1 to len has a variable below bound, and the variable has that place; a variable with a
-- place is at it.
pub record IsArranged (at_place place_of : ℕ → ℕ) (len bound : ℕ) : Type 0 where
  pub some : (p : ℕ) → 0 < p → p ≤ len → 0 < at_place p
  pub below : (p : ℕ) → 0 < p → p ≤ len → at_place p < bound
  pub placed : (p : ℕ) → 0 < p → p ≤ len → place_of (at_place p) ≡ p
  pub within : (v : ℕ) → 0 < place_of v → place_of v ≤ len
  pub found : (v : ℕ) → 0 < place_of v → at_place (place_of v) ≡ v

pub record IsHeapArray (r : HeapArray) : Type 0 where
  pub arranged : IsArranged (at r) (place r) r.len (length r.places.items)
  pub room : length r.heap.items ≡ length r.places.items + 1
  pub count : r.len + count_by (λ p. p == 0) r.places.items ≡ length r.places.items
  pub few : length r.places.items ≤ 4294967296

abbrev pub HasScores : List ℕ → HeapArray → Type 0
HasScores scores r = length scores ≡ length r.places.items

-- the same variables are held, possibly at other places
pub record IsMoved (old new : HeapArray) : Type 0 where
  pub len : new.len ≡ old.len
  pub marks : marks_of new.places.items ≡ marks_of old.places.items
  pub room : length new.places.items ≡ length old.places.items

-- p is a child of q
abbrev pub IsUnder : ℕ → ℕ → Type 0
IsUnder p q = (0 < q) × (2 * q ≤ p) × (p ≤ 2 * q + 1)

-- no variable has a greater score than its parent
pub record IsOrdered (at_place score : ℕ → ℕ) (len : ℕ) : Type 0 where
  pub order : (q p : ℕ) → p ≤ len → IsUnder p q → score (at_place p) ≤ score (at_place q)

-- as IsOrdered, except for place i against its parent
pub record IsOrderedAbove (at_place score : ℕ → ℕ) (len i : ℕ) : Type 0 where
  pub others : (q p : ℕ) → p ≤ len → IsUnder p q → p ≢ i → score (at_place p) ≤ score (at_place q)
  pub over : (g p : ℕ) → p ≤ len → IsUnder i g → IsUnder p i → score (at_place p) ≤ score (at_place g)

-- as IsOrdered, except for place i against its children
pub record IsOrderedBelow (at_place score : ℕ → ℕ) (len i : ℕ) : Type 0 where
  pub others : (q p : ℕ) → p ≤ len → IsUnder p q → q ≢ i → score (at_place p) ≤ score (at_place q)
  pub over : (g p : ℕ) → p ≤ len → IsUnder i g → IsUnder p i → score (at_place p) ≤ score (at_place g)

-- c is a child of q, and no child of q has a greater score
pub record IsGreaterChild (at_place score : ℕ → ℕ) (len q c : ℕ) : Type 0 where
  pub inside : c ≤ len
  pub under : IsUnder c q
  pub greater : (p : ℕ) → p ≤ len → IsUnder p q → score (at_place p) ≤ score (at_place c)

-- The list is a heap by the scores of the variables 1 to vars.
pub record IsHeap (vars : ℕ) (scores : List ℕ) (r : HeapArray) : Type 0 where
  pub array : IsHeapArray r
  pub scores_room : length scores ≡ vars + 1
  pub places_room : length r.places.items ≡ vars + 1
  pub ordered : IsOrdered (at r) (entry scores) r.len

-- the variables 1 to vars are at the places 1 to vars
pub record IsFilled (vars : ℕ) (r : HeapArray) : Type 0 where
  pub len : r.len ≡ vars
  pub each : (v : ℕ) → v ≤ vars → place r v ≡ v
