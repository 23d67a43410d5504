-- Sets of nodes, as ascending lists.
use Rattle.std.specs.Prelude.{◌≡◌, ℕ, ◌<◌, Bool, true, nat_eq, List, [], ◌∷◌}
use Rattle.std.specs.List.{list_any}

-- whether a node is in a list
abbrev pub among : List ℕ → ℕ → Bool
among nodes p = list_any (nat_eq p) nodes

-- each node is below those after it
unfoldable pub IsRising : List ℕ → Type 0
IsRising [] = Unit {0}
IsRising (p ∷ nodes) = ((q : ℕ) → among nodes q ≡ true → p < q) × IsRising nodes

-- each node is above those after it
unfoldable pub IsFalling : List ℕ → Type 0
IsFalling [] = Unit {0}
IsFalling (p ∷ nodes) = ((q : ℕ) → among nodes q ≡ true → q < p) × IsFalling nodes

-- The ascending list of exactly the nodes with the property P.
-- Example: for the fanins of a gate with the operands node 4 and node 2 it is 2, 4.
pub record AreJust (P : ℕ → Type 0) (nodes : List ℕ) : Type 0 where
  pub rising : IsRising nodes
  pub only : (p : ℕ) → among nodes p ≡ true → P p
  pub all : (p : ℕ) → P p → among nodes p ≡ true
