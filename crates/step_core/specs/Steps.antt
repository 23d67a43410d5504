-- Steps with their truth tables in words: row t is the binary digit of weight 2 ^ t.
use Rattle.std.specs.Prelude.{◌≡◌, ℕ, ◌+◌, ◌-◌, ◌==◌, Bool, true, not, List, length, All, slice_index, bit_and, bit_xor}
use Rattle.chain_theory.specs.Operator.{Basis}
use Rattle.chain_theory.specs.Chain.{Step, AreSteps}
use Rattle.chain_laws.specs.Follow.{run}
use Rattle.op_basis.specs.WordOperator.{on_words, input_word}
use Rattle.tt_core.specs.Words.{Words}
use Rattle.bound_core.specs.Counts.{some_below}

-- ---- words

-- the word of a step, from the words of its operands
abbrev pub step_word : (ℕ → ℕ) → Step → ℕ
step_word words s = on_words s.op (words s.j) (words s.k)

-- the word of a place, in a chain of these steps over n inputs
-- Example: of two inputs and the step j = 1, k = 2, op = 1 (AND) the words of the places 1, 2, 3 end in 1100,
-- 1010, 1000.
unfoldable pub word_in : ℕ → List Step → ℕ → ℕ
word_in n steps = run step_word (λ p. input_word (n - p)) (n + 1) steps

-- ---- outputs that are met

-- on some row the specified value of output i + 1 isn't the word's
unfoldable pub misses : Words → ℕ → ℕ → Bool
misses w word i = not (bit_and (bit_xor word (slice_index w.on i)) (slice_index w.care i) == 0)

-- the step of index k has the specified values of output i + 1
unfoldable pub meets_at : Words → List Step → ℕ → ℕ → Bool
meets_at w steps i k = not (misses w (word_in w.n steps (w.n + 1 + k)) i)

-- some step has the specified values of output i + 1
unfoldable pub is_met : Words → List Step → ℕ → Bool
is_met w steps i = some_below (meets_at w steps i) (length steps)

-- no step has the specified values of output i + 1
unfoldable pub is_missing : Words → List Step → ℕ → Bool
is_missing w steps i = not (is_met w steps i)

-- each output has a step with its values
unfoldable pub all_met : Words → List Step → Bool
all_met w steps = not (some_below (is_missing w steps) (length w.on))

-- all steps are over the basis
abbrev pub AreOver : Basis → List Step → Type 0
AreOver basis steps = All (λ (s : Step). basis s.op ≡ true) steps

-- A solution: steps over the basis that have the values of all outputs.
pub record IsSolution (w : Words) (basis : Basis) (steps : List Step) : Type 0 where
  pub are : AreSteps w.n steps
  pub over : AreOver basis steps
  pub met : all_met w steps ≡ true
