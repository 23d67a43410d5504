-- Written rows of words, and the values that they hold.
use Rattle.std.specs.Prelude.{◌≡◌, ℕ, ◌+◌, ◌*◌, ◌<◌, Bool, List, ◌++◌, length, map, slice_get, slice_index_or, Some}
use Rattle.chain_theory.specs.Operator.{digit}
use Rattle.net_theory.specs.declared.data.Sig.{Sig}
use Rattle.net_theory.specs.declared.data.Sig.TheVariants as sigs
use Rattle.net_theory.specs.declared.data.Gate.{Gate}
use Rattle.net_theory.specs.Net.{gate_value}
use Rattle.op_basis.specs.declared.words.Masks.{Masks}
use Rattle.lane_sim.specs.declared.rows.Operand.{Operand}
use Rattle.lane_sim.specs.declared.rows.Operand.TheVariants as operands
use Rattle.op_basis.specs.WordOperator.{masks_of, combined}
use Rattle.lane_sim.specs.Combining.{operand_word}
use Rattle.lane_sim.specs.Cone.{Cone, node_of, leaf_bits, gates_after}

-- The first `count` words of a gate's row are written from index `start` on; the words before are unchanged.
pub record IsGateRowWritten (m : Masks) (a b : Operand) (start count : ℕ) (old new : List ℕ) : Type 0 where
  pub size : length new ≡ length old
  pub here : (j : ℕ) → j < count → slice_index_or new (start + j) 0 ≡ combined m (operand_word old a j) (operand_word old b j)
  pub before : (k : ℕ) → k < start → slice_index_or new k 0 ≡ slice_index_or old k 0

-- The same for a row whose bit r is `right r`.
pub record IsRowWritten (right : ℕ → Bool) (start count : ℕ) (old new : List ℕ) : Type 0 where
  pub size : length new ≡ length old
  pub here : (j b : ℕ) → j < count → b < 64 → digit (slice_index_or new (start + j) 0) b ≡ right (64 * j + b)
  pub before : (k : ℕ) → k < start → slice_index_or new k 0 ≡ slice_index_or old k 0

-- A row whose bit r is `right r` was appended.
pub record IsRowAppended (right : ℕ → Bool) (width : ℕ) (old new : List ℕ) : Type 0 where
  pub size : length new ≡ length old + width
  pub here : (j b : ℕ) → j < width → b < 64 → digit (slice_index_or new (length old + j) 0) b ≡ right (64 * j + b)
  pub before : (k : ℕ) → k < length old → slice_index_or new k 0 ≡ slice_index_or old k 0

-- The rows of the nodes `ps` hold their values under the first `rows` assignments.
pub record AreLanes (ps : List ℕ) (bits : ℕ → ℕ → Bool) (width rows : ℕ) (lanes : List ℕ) : Type 0 where
  pub size : length lanes ≡ length ps * width
  pub values : (k p j b : ℕ) → slice_get ps k ≡ Some p → b < 64 → 64 * j + b < rows → digit (slice_index_or lanes (k * width + j) 0) b ≡ bits (64 * j + b) p

-- the operand of a signal: a constant, or its row among the rows of the nodes `ps`
abbrev pub IsOperandOf : List ℕ → ℕ → Sig → Operand → Type 0
IsOperandOf ps width sigs.Zero o = o ≡ operands.Zero
IsOperandOf ps width sigs.One o = o ≡ operands.One
IsOperandOf ps width (sigs.Node p) o = (k : ℕ) × (slice_get ps k ≡ Some p) × (o ≡ operands.Row (k * width))

-- The row of an operator applied to two operands was appended.
pub record IsCombinedPut (op : ℕ) (a b : Operand) (width : ℕ) (old new : List ℕ) : Type 0 where
  pub size : length new ≡ length old + width
  pub here : (j : ℕ) → j < width → slice_index_or new (length old + j) 0 ≡ combined (masks_of op) (operand_word old a j) (operand_word old b j)
  pub before : (k : ℕ) → k < length old → slice_index_or new k 0 ≡ slice_index_or old k 0

-- The row of a gate was appended to the rows of the nodes `ps`, for any values of these.
pub record IsGatePut (ps : List ℕ) (g : Gate) (width : ℕ) (old new : List ℕ) : Type 0 where
  pub size : length new ≡ length old + width
  pub here : (bits : ℕ → ℕ → Bool) (rows : ℕ) → AreLanes ps bits width rows old → (j b : ℕ) → j < width → b < 64 →
      64 * j + b < rows → digit (slice_index_or new (length old + j) 0) b ≡ gate_value (bits (64 * j + b)) g
  pub before : (k : ℕ) → k < length old → slice_index_or new k 0 ≡ slice_index_or old k 0

-- All leaves but the remaining `left` have their rows.
pub record AreLeaves (c : Cone) (width : ℕ) (ks ls left : List ℕ) : Type 0 where
  pub parts : ks ++ left ≡ c.leaves
  pub lanes : AreLanes ks (leaf_bits c.leaves) width (64 * width) ls

-- The leaves, and all gates but the remaining `left`, have their rows under the first `rows` assignments.
pub record AreGatesOf (c : Cone) (width rows : ℕ) (ks ls : List ℕ) (left : List (ℕ × Gate)) : Type 0 where
  pub done : List (ℕ × Gate)
  pub parts : done ++ left ≡ c.gates
  pub keys : ks ≡ c.leaves ++ map node_of done
  pub lanes : AreLanes ks (λ row. gates_after (leaf_bits c.leaves row) done) width rows ls
