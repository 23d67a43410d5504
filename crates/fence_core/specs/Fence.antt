-- Fences: how many steps of a chain are on each level.
use Rattle.std.specs.Prelude.{ℕ, zero, suc, ◌+◌, ◌≤◌, ◌<◌, ◌≡◌, ◌⊎◌, ⊤, Bool, true, ◌&&◌, leb, List, [], ◌∷◌, ◌++◌, map}
use Rattle.std.specs.Prelude.{sum, All}
use Rattle.std.specs.List.{Contains, filter}

-- the numbers of steps on the levels 1, 2 and so on; none is 0
-- Example: 2, 1 is a fence of three steps on two levels, and 2, 0, 1 is none.
abbrev pub IsFence : List ℕ → Type 0
IsFence levels = All (λ q. 1 ≤ q) levels

-- Each level has at most as many steps as all levels above it together have, plus m. A least chain
-- with m outputs satisfies this: each step is read by a step of a higher level or is an output, and a
-- step reads two places.
-- Example: 2, 1 is listed for one output, and 3, 1 isn't, since the one step of the second level
-- reads only two places.
abbrev pub IsListedFence : ℕ → List ℕ → Type 0
IsListedFence m [] = ⊤
IsListedFence m (q ∷ qs) = (q ≤ sum qs + m) × IsListedFence m qs

-- a fence of r steps that is listed for m outputs
pub record IsFenceOf (r m : ℕ) (fence : List ℕ) : Type 0 where
  pub filled : IsFence fence
  pub whole : sum fence ≡ r
  pub listed : IsListedFence m fence

-- lexicographic order: the first number that differs is smaller, or the list is a prefix of the
-- other
abbrev pub IsLexBefore : List ℕ → List ℕ → Type 0
IsLexBefore xs [] = ⊥
IsLexBefore [] (y ∷ ys) = ⊤
IsLexBefore (x ∷ xs) (y ∷ ys) = (x < y) ⊎ ((x ≡ y) × IsLexBefore xs ys)

-- each list comes before all later ones
abbrev pub IsLexSorted : List (List ℕ) → Type 0
IsLexSorted [] = ⊤
IsLexSorted (f ∷ fences) = All (IsLexBefore f) fences × IsLexSorted fences

-- these are exactly the listed fences of r steps, in lexicographic order
pub record AreListed (r m : ℕ) (fences : List (List ℕ)) : Type 0 where
  pub only : All (IsFenceOf r m) fences
  pub all : (f : List ℕ) → IsFenceOf r m f → Contains fences f
  pub order : IsLexSorted fences

-- ---- the same, computed as a list

-- the list with its first number one greater
abbrev pub one_more : List ℕ → List ℕ
one_more [] = []
one_more (q ∷ qs) = (q + 1) ∷ qs

-- The fences of r + 1 steps in lexicographic order, listed or not. For more than one step, those with
-- one step on the first level come first, and then those with more.
unfoldable pub filled_fences : ℕ → List (List ℕ)
filled_fences zero = (1 ∷ []) ∷ []
filled_fences (suc r) = map (λ f. 1 ∷ f) (filled_fences r) ++ map one_more (filled_fences r)

-- the fences of r steps
-- Example: the fences of three steps are 1 1 1, 1 2, 2 1 and 3.
unfoldable pub fences_of_size : ℕ → List (List ℕ)
fences_of_size zero = [] ∷ []
fences_of_size (suc r) = filled_fences r

-- whether a fence is listed for m outputs
unfoldable pub is_listed_fence : ℕ → List ℕ → Bool
is_listed_fence m [] = true
is_listed_fence m (q ∷ qs) = leb q (sum qs + m) && is_listed_fence m qs

-- the listed fences of r steps, in lexicographic order
-- Example: for one output the listed fences of three steps are 1 1 1 and 2 1.
unfoldable pub listed_fences : ℕ → ℕ → List (List ℕ)
listed_fences r m = filter (is_listed_fence m) (fences_of_size r)
