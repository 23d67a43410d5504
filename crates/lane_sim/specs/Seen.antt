-- The patterns that occur under some of 64 assignments, and under those of four words.
use Rattle.std.specs.Prelude.{◌≡◌, ℕ, zero, suc, ◌+◌, ◌≤◌, ◌<◌, ◌^◌, ◌%◌, true, List, slice_get, slice_index_or, Some}
use Rattle.chain_theory.specs.Operator.{digit}
use Rattle.net_theory.specs.declared.data.Sig.{Sig}
use Rattle.lane_sim.specs.declared.rows.Operand.{Operand}
use Rattle.lane_sim.specs.declared.rows.Operand.TheVariants.{Zero}
use Rattle.lane_sim.specs.Combining.{operand_word, EndsBefore}
use Rattle.lane_sim.specs.Rows.{IsOperandOf}
use Rattle.lane_sim.specs.Words.{pattern}

-- the pattern of operands under assignment b of word j
abbrev pub pattern_at : List ℕ → List Operand → ℕ → ℕ → ℕ
pattern_at lanes operands j b = pattern (λ (o : Operand). digit (operand_word lanes o j) b) operands

-- The bits of `seen` are 1 exactly at the patterns (of n bits) of the assignments of a word that a mask selects.
pub record AreSeen (n : ℕ) (at : ℕ → ℕ) (mask seen : ℕ) : Type 0 where
  pub low : seen < 2 ^ 2 ^ n
  pub only : (t : ℕ) → digit seen t ≡ true → (b : ℕ) × (b < 64) × (digit mask b ≡ true) × (at b ≡ t)
  pub all : (b : ℕ) → b < 64 → digit mask b ≡ true → digit seen (at b) ≡ true

-- one of four numbers, by its index
abbrev pub four_of : ℕ → ℕ → ℕ → ℕ → ℕ → ℕ
four_of first second third fourth zero = first
four_of first second third fourth (suc zero) = second
four_of first second third fourth (suc (suc zero)) = third
four_of first second third fourth (suc (suc (suc l))) = fourth

-- The same for the assignments of four words, from word j on, with a mask for each word.
pub record AreSeenFour (n : ℕ) (at : ℕ → ℕ → ℕ) (j : ℕ) (masks : ℕ → ℕ) (seen : ℕ) : Type 0 where
  pub low : seen < 2 ^ 2 ^ n
  pub only : (t : ℕ) → digit seen t ≡ true → (l : ℕ) × (b : ℕ) × (l < 4) × (b < 64) × (digit (masks l) b ≡ true) × (at (j + l) b ≡ t)
  pub all : (l b : ℕ) → l < 4 → b < 64 → digit (masks l) b ≡ true → digit seen (at (j + l) b) ≡ true

-- at least one assignment; if there are 64 or more, they fill whole words
pub record IsRowCount (rows : ℕ) : Type 0 where
  pub some : 1 ≤ rows
  pub whole : 64 ≤ rows → rows % 64 ≡ 0

-- the first `count` words of all operands lie before index `end` of the lanes
unfoldable pub AllEnd : ℕ → ℕ → List Operand → Type 0
AllEnd end count operands = (i : ℕ) (o : Operand) → slice_get operands i ≡ Some o → EndsBefore end count o

-- the first `count` operands are the rows of `signals`
pub record AreOperands (ps : List ℕ) (width : ℕ) (signals : List Sig) (count : ℕ) (operands : List Operand) : Type 0 where
  pub each : (i : ℕ) (s : Sig) → i < count → slice_get signals i ≡ Some s → IsOperandOf ps width s (slice_index_or operands i Zero)
