-- Windows: a root (seed), a partner (sibling) or none, and a count determine the gates of a window
-- (after Kulikov, Pechenev and Slezkin).
use Rattle.std.specs.Prelude.{◌≡◌, ℕ, ◌≤◌, ◌<◌, true, false, List, [], ◌∷◌, length, Option, Some, None, ◌⊎◌}
use Rattle.net_theory.specs.Net.{Net, end_of}
use Rattle.net_theory.specs.Reach.{is_sink}
use Rattle.window_theory.specs.Nodes.{among, IsRising, AreJust}
use Rattle.window_theory.specs.Paths.{IsGate, Reads, HasPath}
use Rattle.window_theory.specs.Partner.{IsPartner}
use Rattle.chain_theory.specs.Limits.{most_inputs, most_outputs}

-- a window, a small subcircuit, by its nodes: its gates, its inputs and its outputs
pub record Window : Type 0 where
  pub root : ℕ
  pub partner : Option ℕ
  pub gates : List ℕ
  pub inputs : List ℕ
  pub outputs : List ℕ

-- ---- which gates a window has

abbrev pub IsRootOrPartner : ℕ → Option ℕ → ℕ → Type 0
IsRootOrPartner root None p = p ≡ root
IsRootOrPartner root (Some h) p = (p ≡ root) ⊎ (p ≡ h)

-- the node is a fanin of some gate of `gates`
pub record IsReadBy (n : Net) (gates : List ℕ) (p : ℕ) : Type 0 where
  pub fanout : ℕ
  pub inside : among gates fanout ≡ true
  pub reads : Reads n fanout p

-- a gate that isn't taken, and is the root, the partner, or a fanin of a gate that is taken
pub record IsGrowthCandidate (n : Net) (root : ℕ) (partner : Option ℕ) (taken : List ℕ) (p : ℕ) : Type 0 where
  pub gate : IsGate n p
  pub outside : among taken p ≡ false
  pub why : IsRootOrPartner root partner p ⊎ IsReadBy n taken p

pub record IsGreatestCandidate (n : Net) (root : ℕ) (partner : Option ℕ) (taken : List ℕ) (p : ℕ) : Type 0 where
  pub candidate : IsGrowthCandidate n root partner taken p
  pub greatest : (q : ℕ) → IsGrowthCandidate n root partner taken q → q ≤ p

-- Greedy growth: each gate taken is the greatest candidate. The gate taken first is the last of the list.
-- Example: the root 9 reads the gates 3 and 8, and 8 reads the gate 6 and a source. Then 9, 8 and 6 are
-- taken, and next 3 or a gate that 6 reads, whichever is the greatest.
unfoldable pub AreTaken : Net → ℕ → Option ℕ → List ℕ → Type 0
AreTaken n root partner [] = Unit {0}
AreTaken n root partner (p ∷ before) = IsGreatestCandidate n root partner before p × AreTaken n root partner before

-- ---- inputs and outputs

-- an input: a node outside that a gate inside reads
pub record IsInput (n : Net) (gates : List ℕ) (p : ℕ) : Type 0 where
  pub outside : among gates p ≡ false
  pub read : IsReadBy n gates p

pub record IsReadOutside (n : Net) (gates : List ℕ) (p : ℕ) : Type 0 where
  pub fanout : ℕ
  pub outside : among gates fanout ≡ false
  pub reads : Reads n fanout p

-- an output: a gate inside with a sink or a gate outside as fanout
pub record IsOutput (n : Net) (gates : List ℕ) (p : ℕ) : Type 0 where
  pub inside : among gates p ≡ true
  pub seen : IsReadOutside n gates p ⊎ (is_sink n p ≡ true)

-- a node outside the gates and outside their transitive fanout (TFO)
pub record IsOutsideFanout (n : Net) (gates : List ℕ) (p : ℕ) : Type 0 where
  pub outside : among gates p ≡ false
  pub above : (g : ℕ) → among gates g ≡ true → HasPath n g p → ⊥

-- A window belongs to a net where its inputs are nodes of the net that don't depend on its gates, among them
-- each node outside that a gate inside reads, and its outputs are exactly those of its gates. So its gates
-- are a convex set (`IsConvex` of `Paths`), and one with exactly its inputs and outputs belongs (laws say both). A
-- window is wide where it has inputs that no gate inside reads: further divisors, from which a chain that
-- replaces it may compute the outputs (resubstitution).
-- Example: where the gates at 3 and 4 are both AND of the nodes 1 and 2, and both are sinks, the gate 4 with
-- the inputs 1, 2 and the output 4 belongs, and so it does with the further input 3: a chain without steps
-- whose output is this input can replace it. Where gate 4 is NOT of gate 3, the gate 3 with the inputs 1, 2,
-- 4 doesn't belong.
pub record Belongs (n : Net) (w : Window) : Type 0 where
  pub rising : IsRising w.gates
  pub gates : (p : ℕ) → among w.gates p ≡ true → IsGate n p
  pub inputs_rising : IsRising w.inputs
  pub read : (p : ℕ) → IsInput n w.gates p → among w.inputs p ≡ true
  pub apart : (p : ℕ) → among w.inputs p ≡ true → IsOutsideFanout n w.gates p
  pub within : (p : ℕ) → among w.inputs p ≡ true → (1 ≤ p) × (p < end_of n)
  pub outputs : AreJust (IsOutput n w.gates) w.outputs

-- ---- the window of a root

abbrev pub IsPartnerOrNone : Net → ℕ → Option ℕ → Type 0
IsPartnerOrNone n root None = Unit {0}
IsPartnerOrNone n root (Some h) = IsPartner n root h

abbrev pub HasPartner : Option ℕ → List ℕ → Type 0
HasPartner None gates = Unit {0}
HasPartner (Some h) gates = among gates h ≡ true

-- `gates` are the first `count` gates that are taken
pub record Takes (n : Net) (root : ℕ) (partner : Option ℕ) (count : ℕ) (gates : List ℕ) : Type 0 where
  pub taken : List ℕ
  pub are : AreTaken n root partner taken
  pub count_is : length taken ≡ count
  pub gates_are : AreJust (λ p. among taken p ≡ true) gates

-- The window of a root, a partner or none, and a count, which is its number of gates: the partner is one of
-- them, and there are at most 6 inputs and 8 outputs.
-- Example: where the gates at 3 and 4 are both AND of the nodes 1 and 2, and both are sinks, the window of 4
-- with its partner 3 and the count 2 has the gates 3, 4, the inputs 1, 2 and the outputs 3, 4.
pub record IsWindow (n : Net) (root : ℕ) (partner : Option ℕ) (count : ℕ) (w : Window) : Type 0 where
  pub root_is : w.root ≡ root
  pub partner_is : w.partner ≡ partner
  pub takes : Takes n root partner count w.gates
  pub has_partner : HasPartner partner w.gates
  pub inputs : AreJust (IsInput n w.gates) w.inputs
  pub outputs : AreJust (IsOutput n w.gates) w.outputs
  pub few_inputs : length w.inputs ≤ most_inputs
  pub few_outputs : length w.outputs ≤ most_outputs
