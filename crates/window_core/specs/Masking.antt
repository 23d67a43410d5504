-- The words of a window's specification, while they are computed.
use Rattle.std.specs.Prelude.{◌≡◌, ℕ, ◌<◌, ◌^◌, true, List, ◌++◌, length, slice_get, Some, bit_and}
use Rattle.chain_theory.specs.Operator.{digit}
use Rattle.net_theory.specs.declared.data.Gate.{Gate}
use Rattle.net_theory.specs.Net.{Net}
use Rattle.lane_sim.specs.Cone.{Cone, value_in}
use Rattle.window_theory.specs.Care.{IsCareRow}
use Rattle.window_core.specs.Gates.{IsGateOf}
use Rattle.window_core.specs.Expanding.{gate_nodes}

-- The bits of a mask are 1 at exactly the care rows of some nodes.
-- Example: for AND and OR of two sources the mask is 1101 in binary, since row 10 is no care row.
pub record IsCareMask (n : Net) (nodes : List ℕ) (mask : ℕ) : Type 0 where
  pub low : (t : ℕ) → digit mask t ≡ true → t < 2 ^ length nodes
  pub only : (t : ℕ) → digit mask t ≡ true → IsCareRow n nodes t
  pub all : (t : ℕ) → t < 2 ^ length nodes → IsCareRow n nodes t → digit mask t ≡ true

-- The gates of the first nodes were looked up; the nodes `left` remain.
pub record AreNumbered (n : Net) (nodes left : List ℕ) (gates : List (ℕ × Gate)) : Type 0 where
  pub parts : gate_nodes gates ++ left ≡ nodes
  pub own : (i : ℕ) (x : ℕ × Gate) → slice_get gates i ≡ Some x → IsGateOf n x.0 x.1

-- a word has the values of a node of a cone, on as many bits as there are rows
abbrev pub HasGateValues : Cone → ℕ → ℕ → Type 0
HasGateValues c p word = (t : ℕ) → t < 2 ^ length c.leaves → digit word t ≡ value_in c t p

-- The words of the first outputs were pushed, masked by the care rows; the outputs `left` remain.
pub record AreMasked (c : Cone) (mask : ℕ) (outputs left on care : List ℕ) : Type 0 where
  pub done : List ℕ
  pub parts : done ++ left ≡ outputs
  pub size : length on ≡ length done
  pub care_size : length care ≡ length done
  pub each : (i p w : ℕ) → slice_get done i ≡ Some p → slice_get on i ≡ Some w → (word : ℕ) × (w ≡ bit_and word mask) × HasGateValues c p word
  pub masks : (i m : ℕ) → slice_get care i ≡ Some m → m ≡ mask
