-- A window by its lists.
use Rattle.std.specs.Prelude.{◌≡◌, ℕ, ◌<◌, Bool, true, false, List, All, None}
use Rattle.window_theory.specs.Nodes.{among}
use Rattle.window_theory.specs.Window.{Window}
use Rattle.subst_core.specs.declared.lists.WindowLists.{WindowLists}

-- The window of the lists. Its root is 0, since nothing here depends on it.
abbrev pub window_of : WindowLists → Window
window_of l = record { root = 0; partner = None; gates = l.gates.now; inputs = l.inputs.now; outputs = l.outputs.now }

-- windows of one set of gates, with the same inputs and outputs
pub record HaveSameLists (w v : Window) : Type 0 where
  pub gates : w.gates ≡ v.gates
  pub inputs : w.inputs ≡ v.inputs
  pub outputs : w.outputs ≡ v.outputs

-- each of the nodes is below a bound
abbrev pub AllBelow : ℕ → List ℕ → Type 0
AllBelow bound nodes = All (λ (p : ℕ). p < bound) nodes

-- none of the nodes is marked
abbrev pub AreUnmarked : (ℕ → Bool) → List ℕ → Type 0
AreUnmarked marks nodes = (p : ℕ) → among nodes p ≡ true → marks p ≡ false
