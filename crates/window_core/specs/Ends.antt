-- The inputs of some gates, while they are being gathered.
use Rattle.std.specs.Prelude.{◌≡◌, ℕ, true, List, ◌⊎◌}
use Rattle.net_theory.specs.Net.{Net}
use Rattle.window_theory.specs.Nodes.{among, IsRising}
use Rattle.window_theory.specs.Window.{IsInput, IsReadBy}

-- The inputs found so far are inputs of the gates; the others are fanins of the gates `left`.
pub record AreFound (n : Net) (gates left inputs : List ℕ) : Type 0 where
  pub within : (q : ℕ) → among left q ≡ true → among gates q ≡ true
  pub rising : IsRising inputs
  pub only : (p : ℕ) → among inputs p ≡ true → IsInput n gates p
  pub all : (p : ℕ) → IsInput n gates p → (among inputs p ≡ true) ⊎ IsReadBy n left p
