-- Rows of a window's inputs that are observability don't-cares (ODC).
use Rattle.std.specs.Prelude.{◌≡◌, ℕ, ◌≤◌, Bool, true, false, List, ◌++◌, length, ◌⊎◌}
use Rattle.net_theory.specs.Net.{Net}
use Rattle.window_theory.specs.Nodes.{among, AreJust}
use Rattle.window_theory.specs.Window.{Window}
use Rattle.window_theory.specs.FaninCone.{ExpandsTo}
use Rattle.window_theory.specs.Care.{values_with, HasRow}
use Rattle.observe_theory.specs.FanoutCone.{FanoutCone}
use Rattle.net_theory.specs.Limits.{most_leaves}

-- the nodes from which the observing fanin cone is expanded: the inputs of the window and of its fanout cone
abbrev pub IsConeRoot : Window → FanoutCone → ℕ → Type 0
IsConeRoot w t p = (among w.inputs p ≡ true) ⊎ (among t.side_inputs p ≡ true)

-- The leaves of the observing fanin cone, where the window and its fanout cone have at most 12 inputs
-- together.
pub record AreObserving (n : Net) (w : Window) (t : FanoutCone) (leaves : List ℕ) : Type 0 where
  pub first : List ℕ
  pub just : AreJust (IsConeRoot w t) first
  pub few : length first ≤ most_leaves
  pub fanin_cone : ExpandsTo n first leaves

-- the values where the leaves and the window's outputs are forced to given bits
abbrev pub values_put : Net → Window → List ℕ → (ℕ → Bool) → ℕ → Bool
values_put n w leaves = values_with n (among (leaves ++ w.outputs))

-- A row of the window's inputs is unobservable, an observability don't-care, where under every assignment of
-- the leaves that gives the inputs this row, the outputs of the fanout cone have the same values whatever
-- bits the window's outputs are forced to. (The window's own values are among these bits; a law says so.) A
-- directly observable window has no unobservable row.
-- Example: where the gate 3 is the window, gate 4 is AND of 3 and the source 1, and the only sink is 4, the
-- rows that give the source 1 the bit 0 are unobservable.
pub record IsUnobservable (n : Net) (w : Window) (t : FanoutCone) (row : ℕ) : Type 0 where
  pub hidden : t.directly_observable ≡ false
  pub leaves : List ℕ
  pub observing : AreObserving n w t leaves
  pub same : (f g : ℕ → Bool) (p : ℕ) → HasRow (values_with n (among leaves) f) w.inputs row →
      ((q : ℕ) → among leaves q ≡ true → g q ≡ f q) → among t.cone_outputs p ≡ true →
      values_put n w leaves g p ≡ values_put n w leaves f p
