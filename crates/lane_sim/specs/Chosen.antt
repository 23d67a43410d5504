-- The patterns that occur under the chosen assignments of the first words.
use Rattle.std.specs.Prelude.{◌≡◌, ℕ, ◌+◌, ◌*◌, ◌<◌, ◌^◌, Bool, true, List}
use Rattle.chain_theory.specs.Operator.{digit}
use Rattle.lane_sim.specs.declared.rows.Operand.{Operand}
use Rattle.lane_sim.specs.Combining.{operand_word}

-- whether the row `chosen` selects assignment b of word j
abbrev pub chosen_at : List ℕ → Operand → ℕ → ℕ → Bool
chosen_at words chosen j b = digit (operand_word words chosen j) b

-- The bits of `seen` are 1 exactly at the patterns of the chosen assignments in the first `count` words.
pub record AreChosenBelow (n : ℕ) (at : ℕ → ℕ → ℕ) (when : ℕ → ℕ → Bool) (rows count seen : ℕ) : Type 0 where
  pub low : seen < 2 ^ 2 ^ n
  pub only : (t : ℕ) → digit seen t ≡ true → (j : ℕ) × (b : ℕ) × (b < 64) × (64 * j + b < rows) × (when j b ≡ true) × (at j b ≡ t)
  pub all : (j b : ℕ) → j < count → b < 64 → 64 * j + b < rows → when j b ≡ true → digit seen (at j b) ≡ true
