-- Dropping decision levels (backtracking).
use Rattle.std.specs.Prelude.{◌≡◌, ℕ, ◌<◌, ◌≤◌, ◌-◌, List, length, slice_index_or, All}

-- The starts from `back` on were dropped, and the first of them was `end`.
pub record IsDropped (back : ℕ) (old new : List ℕ) (end : ℕ) : Type 0 where
  pub fewer : length new < length old
  pub front : (p d : ℕ) → p < length new → slice_index_or new p d ≡ slice_index_or old p d
  pub at : (d : ℕ) → slice_index_or old (length new) d ≡ end
  pub high : back ≤ end
  pub low : All (λ s. s < back) new

-- the first level begins at an index
pub record IsFirstStart (starts : List ℕ) (first : ℕ) : Type 0 where
  pub some : 0 < length starts
  pub begins : (d : ℕ) → slice_index_or starts 0 d ≡ first

-- the last level begins at an index
pub record IsLastStart (starts : List ℕ) (start : ℕ) : Type 0 where
  pub some : 0 < length starts
  pub last : (d : ℕ) → slice_index_or starts (length starts - 1) d ≡ start
