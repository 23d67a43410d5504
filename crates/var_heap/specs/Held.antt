-- Variables with scores, some of them held by the heap.
use Rattle.std.specs.Prelude.{◌≡◌, ℕ, ◌+◌, ◌<◌, ◌≤◌, ◌↔◌, Bool, true, false, List, length, slice_index_or, replicate}

-- The variables are 1 to vars. Index v of a list is that of the variable v; index 0 is unused.
-- Example: with the scores 0, 4, 9 and the marks false, true, false the variable 1 is held with the
-- score 4, and 2 with the score 9 is not.
pub record Held : Type 0 where
  pub vars : ℕ
  pub scores : List ℕ
  pub marks : List Bool

abbrev pub IsHeld : Held → ℕ → Type 0
IsHeld h v = slice_index_or h.marks v false ≡ true

abbrev pub score_of : Held → ℕ → ℕ
score_of h v = slice_index_or h.scores v 0

abbrev pub IsVariable : Held → ℕ → Type 0
IsVariable h v = (0 < v) × (v ≤ h.vars)

-- Each variable has a score and a mark, and only variables are held.
pub record IsWhole (h : Held) : Type 0 where
  pub scores_room : length h.scores ≡ h.vars + 1
  pub marks_room : length h.marks ≡ h.vars + 1
  pub variables : (v : ℕ) → IsHeld h v → IsVariable h v

-- v is held, and no held variable has a greater score
pub record IsGreatest (h : Held) (v : ℕ) : Type 0 where
  pub held : IsHeld h v
  pub variable : IsVariable h v
  pub greatest : (w : ℕ) → IsHeld h w → score_of h w ≤ score_of h v

-- exactly the variables are held, each with the score 0
pub record IsFull (vars : ℕ) (h : Held) : Type 0 where
  pub vars_are : h.vars ≡ vars
  pub held : (v : ℕ) → IsHeld h v ↔ IsVariable h v
  pub scores_are : h.scores ≡ replicate (vars + 1) 0
