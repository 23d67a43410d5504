-- Chains whose later steps read exactly a given set of places. A set of places is a test of numbers: place i + 1 is in
-- the set if the test passes i; a mask stands for the set of its digits.
use Rattle.std.specs.Prelude.{◌≡◌, ℕ, suc, ◌+◌, ◌-◌, ◌≤◌, ◌<◌, ◌⊎◌, Bool, true, List, ◌∷◌, ◌++◌, length, slice_index}
use Rattle.chain_theory.specs.Operator.{Basis, digit}
use Rattle.chain_theory.specs.Chain.{Step}
use Rattle.chain_laws.specs.Follow.{with_own}
use Rattle.tt_core.specs.Words.{Words}
use Rattle.bound_core.specs.Counts.{count_below}
use Rattle.step_core.specs.Steps.{word_in, is_missing}
use Rattle.step_core.specs.StepStacks.{StackView}
use Rattle.step_core.specs.Limits.{most_enumerated_steps}
use Rattle.step_core.specs.Pruning.{due, gives_some}
use Rattle.step_core.specs.Waits.{is_later}
use Rattle.step_core.specs.Enumeration.{IsNormalSolution}

-- Each step is read by a later step, or is the first one with the values of some output. The steps of a least chain in
-- normal form are like this.
pub record IsFreshSolution (w : Words) (basis : Basis) (steps : List Step) : Type 0 where
  pub normal : IsNormalSolution w basis steps
  pub each : (prefix rest : List Step) (s : Step) → steps ≡ prefix ++ s ∷ rest →
      (is_later rest (w.n + length prefix) ≡ true) ⊎
      (gives_some w prefix (word_in w.n steps (w.n + 1 + length prefix)) ≡ true)

-- of the first places, as many as the number says, the steps read exactly those of the set
pub record ReadExactly (rest : List Step) (places : ℕ) (reads : ℕ → Bool) : Type 0 where
  pub each : (i : ℕ) → i < places → is_later rest i ≡ reads i

-- no such chain begins with the steps of `prefix` and has `left` more that read exactly the set, of the places so far
-- Example: with no step left, none reads a set that isn't empty.
pub record NoneReading (w : Words) (basis : Basis) (prefix : List Step) (left : ℕ) (reads : ℕ → Bool) : Type 0 where
  pub none : (rest : List Step) → length rest ≡ left → IsFreshSolution w basis (prefix ++ rest) →
      ReadExactly rest (w.n + length prefix) reads → ⊥

-- and none of these has the property `P` at the first further step
pub record NoneReadingWith (w : Words) (basis : Basis) (prefix : List Step) (left : ℕ) (reads : ℕ → Bool)
    (P : Step → Type 0) : Type 0 where
  pub none : (s : Step) (rest : List Step) → P s → suc (length rest) ≡ left →
      IsFreshSolution w basis (prefix ++ s ∷ rest) → ReadExactly (s ∷ rest) (w.n + length prefix) reads → ⊥

-- no such chain has this number of steps
pub record NoneOfSize (w : Words) (basis : Basis) (size : ℕ) : Type 0 where
  pub none : (steps : List Step) → length steps ≡ size → IsFreshSolution w basis steps → ⊥

-- The set after a step with the operands j and k at the place p: the operands are in it or not as `first` and `second`
-- say, the step's own place as `own` says, and other places as before.
abbrev pub reads_after : (ℕ → Bool) → ℕ → ℕ → ℕ → Bool → Bool → Bool → ℕ → Bool
reads_after reads j k p first second own = with_own (with_own (with_own reads (j - 1) first) (k - 1) second) (p - 1) own

-- how many outputs have no step with their values
abbrev pub missing : Words → List Step → ℕ
missing w steps = count_below (is_missing w steps) (length w.on)

-- the digits of the mask are the outputs that no step has the values of
pub record IsMissingMask (w : Words) (steps : List Step) (mask : ℕ) : Type 0 where
  pub each : (i : ℕ) → i < length w.on → digit mask i ≡ is_missing w steps i

-- Two rows have equal values at all places of the set, and different specified values of a missing output.
pub record AreInConflict (w : Words) (steps : List Step) (reads : ℕ → Bool) : Type 0 where
  pub output : ℕ
  pub inside : output < length w.on
  pub missed : is_missing w steps output ≡ true
  pub row : ℕ
  pub other : ℕ
  pub below : row < 64
  pub other_below : other < 64
  pub alike : (i : ℕ) → i < w.n + length steps → reads i ≡ true →
      digit (word_in w.n steps (i + 1)) other ≡ digit (word_in w.n steps (i + 1)) row
  pub care : digit (slice_index w.care output) row ≡ true
  pub other_care : digit (slice_index w.care output) other ≡ true
  pub differ : digit (slice_index w.on output) other ≡ digit (slice_index w.on output) row → ⊥

-- The stack has the inputs of the words, and room for `left` more steps, of which there is at least one; `count` outputs
-- are due.
pub record IsOpen (w : Words) (t : StackView) (left count : ℕ) : Type 0 where
  pub inputs : t.n ≡ w.n
  pub room : length t.steps + left ≤ most_enumerated_steps
  pub some : 1 ≤ left
  pub due : count ≡ due w t.steps

-- The stack has the inputs of the words, and room for `left` more steps; `count` outputs are due, and those of the mask
-- are missing.
pub record IsRefuting (w : Words) (t : StackView) (left count mask : ℕ) : Type 0 where
  pub inputs : t.n ≡ w.n
  pub room : length t.steps + left ≤ most_enumerated_steps
  pub due : count ≡ due w t.steps
  pub missing : IsMissingMask w t.steps mask

-- the stack has the inputs of the words, room for `left` more steps, and the places j and k
pub record IsAfter (w : Words) (t : StackView) (left j k : ℕ) : Type 0 where
  pub inputs : t.n ≡ w.n
  pub room : length t.steps + left ≤ most_enumerated_steps
  pub first_from : 1 ≤ j
  pub first : j ≤ t.n + length t.steps
  pub second_from : 1 ≤ k
  pub second : k ≤ t.n + length t.steps

-- The outcome of a refutation from the stack `old`: if it succeeded, the stack is unchanged, and `None` holds.
pub record IsRefutation (old new : StackView) (None : Type 0) (refuted : Bool) : Type 0 where
  pub same : refuted ≡ true → new ≡ old
  pub none : refuted ≡ true → None
