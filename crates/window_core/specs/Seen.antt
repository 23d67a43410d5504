-- Reference counts by some gates, and outputs while they are gathered.
use Rattle.std.specs.Prelude.{◌≡◌, ℕ, ◌+◌, ◌*◌, ◌≤◌, ◌<◌, true, if◌then◌else◌, List, length, ◌⊎◌}
use Rattle.net_theory.specs.Net.{Net}
use Rattle.window_theory.specs.Nodes.{among, IsRising}
use Rattle.window_theory.specs.Window.{IsOutput}
use Rattle.window_core.specs.Fanouts.{named_by_gate, sum_gates}

-- how often the gates of a net that are among `gates` name a node
unfoldable pub inside_of : Net → List ℕ → ℕ → ℕ
inside_of n gates p = sum_gates (λ q g. if among gates q then named_by_gate p g else 0) (n.sources + 1) n.gates

-- The references by the gates so far and by those that are left are the references by all.
pub record AreCounted (n : Net) (gates left : List ℕ) (p uses : ℕ) : Type 0 where
  pub within : (q : ℕ) → among left q ≡ true → among gates q ≡ true
  pub rising : IsRising left
  pub sum : uses + inside_of n left p ≡ inside_of n gates p
  pub few : uses + 2 * length left ≤ 2 * length gates

-- The outputs found so far are outputs of the gates, and are below the gates that are left.
pub record AreShown (n : Net) (gates left outputs : List ℕ) : Type 0 where
  pub within : (q : ℕ) → among left q ≡ true → among gates q ≡ true
  pub left_rising : IsRising left
  pub rising : IsRising outputs
  pub below : (p q : ℕ) → among outputs p ≡ true → among left q ≡ true → p < q
  pub only : (p : ℕ) → among outputs p ≡ true → IsOutput n gates p
  pub all : (p : ℕ) → IsOutput n gates p → (among outputs p ≡ true) ⊎ (among left p ≡ true)
  pub few : length outputs + length left ≤ length gates
