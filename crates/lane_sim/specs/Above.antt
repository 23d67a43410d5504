-- The words of a cone with further gates above it.
use Rattle.std.specs.Prelude.{◌≡◌, ℕ, ◌+◌, ◌*◌, ◌≤◌, ◌<◌, ◌^◌, List, ◌++◌, length, slice_get, slice_index_or, Some}
use Rattle.chain_theory.specs.Operator.{digit}
use Rattle.net_theory.specs.declared.data.Gate.{Gate}
use Rattle.lane_sim.specs.Cone.{Cone, nodes, value_in}
use Rattle.lane_sim.specs.Rows.{AreGatesOf}
use Rattle.lane_sim.specs.Words.{Words, width_of}

-- a cone with further gates
abbrev pub with_gates : Cone → List (ℕ × Gate) → Cone
with_gates c above = record { leaves = c.leaves; gates = c.gates ++ above }

-- The words begin with the words of the cone, whatever follows.
-- Example: the words of a cone with further gates begin with the cone's.
pub record BeginsWithWords (c : Cone) (w : Words) : Type 0 where
  pub rows : w.rows ≡ 2 ^ length c.leaves
  pub room : length (nodes c) * width_of w.rows ≤ length w.lanes
  pub values : (k p j b : ℕ) → slice_get (nodes c) k ≡ Some p → b < 64 → 64 * j + b < w.rows → digit (slice_index_or w.lanes (k * width_of w.rows + j) 0) b ≡ value_in c (64 * j + b) p

-- all gates but the remaining `left` have their rows
abbrev pub AreDone : Cone → ℕ → List ℕ → List (ℕ × Gate) → Type 0
AreDone c width ls left = (ks : List ℕ) × AreGatesOf c width (2 ^ length c.leaves) ks ls left
