-- Sets of rows as the bits of masks.
use Rattle.std.specs.Prelude.{◌≡◌, ℕ, ◌≤◌, ◌<◌, ◌^◌, List, true, false, ◌&&◌, length, slice_index, ◌⊎◌}
use Rattle.chain_theory.specs.Chain.{Chain, IsChain}
use Rattle.chain_theory.specs.Agreement.{Agrees}
use Rattle.chain_theory.specs.Operator.{digit}
use Rattle.chain_theory.specs.Specification.{Specification}
use Rattle.net_theory.specs.Net.{Net}
use Rattle.tt_core.specs.Words.{Words}
use Rattle.lane_sim.specs.Cone.{Cone}
use Rattle.window_theory.specs.Nodes.{among, IsRising, AreJust}
use Rattle.window_theory.specs.FaninCone.{ExpandsTo}
use Rattle.window_core.specs.Expanding.{gate_nodes, AreAbove, AreLeavesOrGates, IsInFanin}
use Rattle.window_theory.specs.Window.{Window}
use Rattle.observe_theory.specs.FanoutCone.{FanoutCone}
use Rattle.observe_theory.specs.Unobservable.{IsConeRoot, IsUnobservable}
use Rattle.observe_theory.specs.Observed.{IsObservedOf}
use Rattle.net_theory.specs.Limits.{most_leaves}

-- a node of one of two lists
abbrev pub IsEither : List ℕ → List ℕ → ℕ → Type 0
IsEither one other p = (among one p ≡ true) ⊎ (among other p ≡ true)

-- The nodes of two lists were put into one; those of `left` of the second list remain.
pub record ArePutTogether (one other left both : List ℕ) : Type 0 where
  pub within : (p : ℕ) → among left p ≡ true → among other p ≡ true
  pub rising : IsRising both
  pub only : (p : ℕ) → among both p ≡ true → IsEither one other p
  pub first : (p : ℕ) → among one p ≡ true → among both p ≡ true
  pub second : (p : ℕ) → among other p ≡ true → IsEither both left p

-- The observing fanin cone as a cone of the net.
pub record IsObservingCone (n : Net) (w : Window) (t : FanoutCone) (c : Cone) : Type 0 where
  pub first : List ℕ
  pub just : AreJust (IsConeRoot w t) first
  pub few : length first ≤ most_leaves
  pub expands_to : ExpandsTo n first c.leaves
  pub above : AreAbove n c.leaves c.gates
  pub covered : AreLeavesOrGates c.leaves c.gates first
  pub in_fanin : (p : ℕ) → among (gate_nodes c.gates) p ≡ true → IsInFanin n first p

-- The bits of a mask are 0 at exactly the unobservable rows.
pub record IsObservableMask (n : Net) (w : Window) (t : FanoutCone) (mask : ℕ) : Type 0 where
  pub seen : (row : ℕ) → row < 2 ^ length w.inputs → digit mask row ≡ true → IsUnobservable n w t row → ⊥
  pub unobservable : (row : ℕ) → row < 2 ^ length w.inputs → digit mask row ≡ false → IsUnobservable n w t row

-- The tables of a specification, with all rows free but those of a mask.
pub record IsMasked (mask : ℕ) (old new : Words) : Type 0 where
  pub inputs : new.n ≡ old.n
  pub outputs : length new.on ≡ length old.on
  pub on : (i t : ℕ) → digit (slice_index new.on i) t ≡ (digit (slice_index old.on i) t && digit mask t)
  pub care : (i t : ℕ) → digit (slice_index new.care i) t ≡ (digit (slice_index old.care i) t && digit mask t)

-- The chain implements the observed specification of the window.
pub record MeetsObserved (n : Net) (w : Window) (c : Chain) : Type 0 where
  pub chain : IsChain c
  pub specification : Specification
  pub is : IsObservedOf n w specification
  pub agrees : Agrees c specification
