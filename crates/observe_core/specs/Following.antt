-- The fanouts of a node, and the least follower of some gates, while they are searched for. 0 stands for
-- none.
use Rattle.std.specs.Prelude.{◌≡◌, ℕ, zero, suc, ◌+◌, ◌-◌, ◌≤◌, ◌<◌, true, false, List, ◌++◌, length, ◌⊎◌}
use Rattle.net_theory.specs.Net.{Net, end_of}
use Rattle.window_theory.specs.Nodes.{among, IsRising, AreJust}
use Rattle.window_theory.specs.Paths.{IsGate, Reads}
use Rattle.window_core.specs.Fanouts.{IsLater}
use Rattle.observe_theory.specs.FanoutCone.{IsFollower, AreFollowing, AreFanoutCone}
use Rattle.window_theory.specs.Limits.{most_of_fanout_cone}

-- the least gate outside some gates that reads a node, or 0 where there is none
pub record IsLeastFanout (n : Net) (gates : List ℕ) (node r : ℕ) : Type 0 where
  pub found : (r ≡ 0) ⊎ (Reads n r node × (among gates r ≡ false))
  pub most : (x : ℕ) → Reads n x node → among gates x ≡ false → (1 ≤ r) × (r ≤ x)

-- So far all fanouts below a bound are among the gates, and `next` is the first one at the bound or above.
pub record IsFanoutSearch (n : Net) (gates : List ℕ) (node next : ℕ) : Type 0 where
  pub bound : ℕ
  pub later : IsLater n bound node next
  pub inside : (x : ℕ) → Reads n x node → x < bound → among gates x ≡ true

-- how far a node is from the end of a net; 0, which is none, is at distance 0
unfoldable pub way_from : Net → ℕ → ℕ
way_from n zero = 0
way_from n (suc p) = end_of n - suc p

-- the lesser of two numbers, where 0 stands for none
pub record IsLesser (a b r : ℕ) : Type 0 where
  pub one : (r ≡ a) ⊎ (r ≡ b)
  pub first : 1 ≤ a → (1 ≤ r) × (r ≤ a)
  pub second : 1 ≤ b → (1 ≤ r) × (r ≤ b)

-- the least follower of some gates, or 0 where there is none
pub record IsNextFollower (n : Net) (gates : List ℕ) (r : ℕ) : Type 0 where
  pub found : (r ≡ 0) ⊎ IsFollower n gates r
  pub most : (x : ℕ) → IsFollower n gates x → (1 ≤ r) × (r ≤ x)

-- `best` is the least follower as far as the gates `left` don't matter.
pub record IsFollowerSought (n : Net) (gates left : List ℕ) (best : ℕ) : Type 0 where
  pub within : (q : ℕ) → among left q ≡ true → among gates q ≡ true
  pub found : (best ≡ 0) ⊎ IsFollower n gates best
  pub most : (x q : ℕ) → among gates q ≡ true → Reads n x q → among gates x ≡ false → ((1 ≤ best) × (best ≤ x)) ⊎ (among left q ≡ true)

-- two lists have the same nodes
abbrev pub HaveSame : List ℕ → List ℕ → Type 0
HaveSame xs ys = (q : ℕ) → among xs q ≡ among ys q

-- `count` gates of the fanout cone were taken; `all` has them and the window's gates.
pub record IsConeTaking (n : Net) (gates : List ℕ) (count : ℕ) (all fanout_cone : List ℕ) : Type 0 where
  pub taken : List ℕ
  pub following : AreFollowing n gates taken
  pub size : length taken ≡ count
  pub just : AreJust (λ p. among taken p ≡ true) fanout_cone
  pub rising : IsRising all
  pub same : HaveSame all (taken ++ gates)
  pub few : length all ≤ length gates + count
  pub are : (q : ℕ) → among all q ≡ true → IsGate n q

-- The fanout cone was taken.
pub record HasFanoutCone (n : Net) (gates all fanout_cone : List ℕ) : Type 0 where
  pub is : AreFanoutCone n gates fanout_cone
  pub rising : IsRising all
  pub same : HaveSame all (fanout_cone ++ gates)
  pub few : length all ≤ length gates + most_of_fanout_cone
  pub are : (q : ℕ) → among all q ≡ true → IsGate n q
