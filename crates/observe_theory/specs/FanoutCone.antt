-- The fanout cone of a window: a bounded transitive fanout (TFO), in which the effect of the window is
-- observed.
use Rattle.std.specs.Prelude.{◌≡◌, ℕ, ◌≤◌, ◌<◌, Bool, true, false, List, [], ◌∷◌, ◌++◌, length}
use Rattle.net_theory.specs.Net.{Net}
use Rattle.window_theory.specs.Nodes.{among, AreJust}
use Rattle.window_theory.specs.Paths.{Reads}
use Rattle.window_theory.specs.Window.{Window, IsReadBy, IsOutput}
use Rattle.window_theory.specs.Limits.{most_of_fanout_cone}

-- ---- the gates of a fanout cone

-- a gate outside `gates` with a fanin among them
pub record IsFollower (n : Net) (gates : List ℕ) (p : ℕ) : Type 0 where
  pub outside : among gates p ≡ false
  pub node : ℕ
  pub inside : among gates node ≡ true
  pub reads : Reads n p node

pub record IsLeastFollower (n : Net) (gates : List ℕ) (p : ℕ) : Type 0 where
  pub follower : IsFollower n gates p
  pub least : (q : ℕ) → IsFollower n gates q → p ≤ q

-- Gates that are taken one after the other, with the first one last in the list: each is the least follower
-- (fanout) of the window's gates and of those taken before it.
unfoldable pub AreFollowing : Net → List ℕ → List ℕ → Type 0
AreFollowing n gates [] = Unit {0}
AreFollowing n gates (p ∷ before) = IsLeastFollower n (before ++ gates) p × AreFollowing n gates before

-- The gates of the fanout cone: the least 16 of the transitive fanout, or all of it where it has fewer.
-- Example: where gate 4 reads the window's gate 3, gate 5 reads gate 4, and gate 6 reads the sources, they
-- are 4, 5.
pub record AreFanoutCone (n : Net) (gates fanout_cone : List ℕ) : Type 0 where
  pub taken : List ℕ
  pub following : AreFollowing n gates taken
  pub few : length taken ≤ most_of_fanout_cone
  pub all : length taken < most_of_fanout_cone → (p : ℕ) → IsFollower n (taken ++ gates) p → ⊥
  pub just : AreJust (λ p. among taken p ≡ true) fanout_cone

-- ---- the inputs and outputs of the fanout cone

-- a side input: a fanin of the fanout cone outside the window and the fanout cone
pub record IsSideInput (n : Net) (gates fanout_cone : List ℕ) (p : ℕ) : Type 0 where
  pub outside : among (fanout_cone ++ gates) p ≡ false
  pub read : IsReadBy n fanout_cone p

-- an output of the fanout cone: one of its gates that is read by a sink or by a gate outside the window and the
-- fanout cone
pub record IsConeOutput (n : Net) (gates fanout_cone : List ℕ) (p : ℕ) : Type 0 where
  pub inside : among fanout_cone p ≡ true
  pub seen : IsOutput n (fanout_cone ++ gates) p

-- a gate of the window that a sink reads, or a gate outside the window and the fanout cone: the window is
-- directly observable
pub record IsDirectlyObservable (n : Net) (gates fanout_cone : List ℕ) : Type 0 where
  pub node : ℕ
  pub inside : among gates node ≡ true
  pub seen : IsOutput n (fanout_cone ++ gates) node

pub record FanoutCone : Type 0 where
  pub gates : List ℕ
  pub side_inputs : List ℕ
  pub cone_outputs : List ℕ
  pub directly_observable : Bool

-- The fanout cone of a window, with its side inputs and its outputs, and whether the window is directly
-- observable.
-- Example: the one gate of the window is 3, gate 4 is AND of 3 and the source 1, and the only sink is 4. Then
-- the fanout cone has the gate 4, the side input 1 and the output 4, and the window isn't directly
-- observable. It is where 3 is a sink too.
pub record IsFanoutCone (n : Net) (w : Window) (t : FanoutCone) : Type 0 where
  pub gates : AreFanoutCone n w.gates t.gates
  pub side_inputs : AreJust (IsSideInput n w.gates t.gates) t.side_inputs
  pub cone_outputs : AreJust (IsConeOutput n w.gates t.gates) t.cone_outputs
  pub directly_observable : t.directly_observable ≡ true → IsDirectlyObservable n w.gates t.gates
  pub hidden : t.directly_observable ≡ false → IsDirectlyObservable n w.gates t.gates → ⊥
