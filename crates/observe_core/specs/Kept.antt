-- Filtered ascending lists of nodes.
use Rattle.std.specs.Prelude.{◌≡◌, ℕ, ◌<◌, true, List, ◌⊎◌}
use Rattle.net_theory.specs.Net.{Net}
use Rattle.window_theory.specs.Nodes.{among, IsRising}
use Rattle.window_theory.specs.Window.{IsReadBy}

-- The nodes with the property P were kept; those of `left` weren't looked at yet.
pub record AreFiltered (P : ℕ → Type 0) (nodes left kept : List ℕ) : Type 0 where
  pub left_rising : IsRising left
  pub within : (p : ℕ) → among left p ≡ true → among nodes p ≡ true
  pub rising : IsRising kept
  pub below : (p q : ℕ) → among kept p ≡ true → among left q ≡ true → p < q
  pub only : (p : ℕ) → among kept p ≡ true → (among nodes p ≡ true) × P p
  pub all : (p : ℕ) → among nodes p ≡ true → P p → (among kept p ≡ true) ⊎ (among left p ≡ true)

-- the nodes of a list with the property P
abbrev pub IsBoth : (ℕ → Type 0) → List ℕ → ℕ → Type 0
IsBoth P nodes p = (among nodes p ≡ true) × P p

-- some node is on both lists
pub record HasSome (gates nodes : List ℕ) : Type 0 where
  pub node : ℕ
  pub inside : among gates node ≡ true
  pub there : among nodes node ≡ true

-- Where one of the gates reads the node, one of the gates `left` does.
pub record IsReadLeft (n : Net) (gates left : List ℕ) (node : ℕ) : Type 0 where
  pub within : (p : ℕ) → among left p ≡ true → among gates p ≡ true
  pub all : IsReadBy n gates node → IsReadBy n left node

-- Where the lists have a node in common, one of the nodes `left` is.
pub record IsSomeLeft (gates nodes left : List ℕ) : Type 0 where
  pub within : (p : ℕ) → among left p ≡ true → among nodes p ≡ true
  pub all : HasSome gates nodes → HasSome gates left
