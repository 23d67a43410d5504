-- Missing outputs that share further steps. The places of a set that further steps read, and these steps, are the nodes
-- of a graph in which each step is joined with its operands. A missing output belongs to the component of the step that
-- first has its values, and so does each place that is essential for it. Each further step joins two components at
-- most, and each component that is left has a missing output.
use Rattle.std.specs.Prelude.{◌≡◌, ℕ, ◌+◌, ◌<◌, Bool, true, List, length, slice_index}
use Rattle.chain_theory.specs.Operator.{digit}
use Rattle.chain_theory.specs.Chain.{Step}
use Rattle.tt_core.specs.Words.{Words}
use Rattle.bound_core.specs.Counts.{count_below}
use Rattle.step_core.specs.Steps.{word_in, is_missing}

-- Of the places of the set, `place` + 1 is essential for output `output` + 1: two rows have equal values at all others, and
-- different specified values of the output.
-- Example: with the set of both inputs each of them is essential for the table 0110.
pub record IsEssential (w : Words) (steps : List Step) (reads : ℕ → Bool) (place output : ℕ) : Type 0 where
  pub row : ℕ
  pub other : ℕ
  pub below : row < 64
  pub other_below : other < 64
  pub alike : (i : ℕ) → i < w.n + length steps → reads i ≡ true → (i ≡ place → ⊥) →
      digit (word_in w.n steps (i + 1)) other ≡ digit (word_in w.n steps (i + 1)) row
  pub care : digit (slice_index w.care output) row ≡ true
  pub other_care : digit (slice_index w.care output) other ≡ true
  pub differ : digit (slice_index w.on output) other ≡ digit (slice_index w.on output) row → ⊥

-- A colouring of places and of outputs, such as that by components: a missing output has the colour of each place of the
-- set that is essential for it.
pub record IsColouring (w : Words) (steps : List Step) (reads : ℕ → Bool) (of_place of_output : ℕ → ℕ) : Type 0 where
  pub each : (place output : ℕ) → place < w.n + length steps → output < length w.on → reads place ≡ true →
      is_missing w steps output ≡ true → IsEssential w steps reads place output → of_output output ≡ of_place place

-- Two outputs are linked: they have one colour in each colouring. Missing outputs with a common essential place are
-- linked, and so are two outputs that are linked with a third one.
pub record AreLinked (w : Words) (steps : List Step) (reads : ℕ → Bool) (a b : ℕ) : Type 0 where
  pub same : (of_place of_output : ℕ → ℕ) → IsColouring w steps reads of_place of_output → of_output a ≡ of_output b

-- the output is linked with one of the set `starts`
pub record IsCovered (w : Words) (steps : List Step) (reads starts : ℕ → Bool) (output : ℕ) : Type 0 where
  pub start : ℕ
  pub inside : start < length w.on
  pub member : starts start ≡ true
  pub linked : AreLinked w steps reads output start

-- The missing outputs fall into fewer than `bound` groups of linked ones: each is linked with one of so few starts.
pub record HasFewGroups (w : Words) (steps : List Step) (reads : ℕ → Bool) (bound : ℕ) : Type 0 where
  pub starts : ℕ → Bool
  pub few : count_below starts (length w.on) < bound
  pub each : (output : ℕ) → output < length w.on → is_missing w steps output ≡ true →
      IsCovered w steps reads starts output
