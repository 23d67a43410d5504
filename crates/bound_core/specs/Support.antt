-- Supports, and outputs that differ, in terms of rows and cells.
use Rattle.std.specs.Prelude.{◌≡◌, ℕ, ◌^◌, ◌<◌, ◌≤◌, Bool, true, false, List, Contains, AllPairs}
use Rattle.chain_theory.specs.Specification.{Specification, input}
use Rattle.chain_theory.specs.declared.data.Cell.{Cell}
use Rattle.chain_theory.specs.declared.data.Cell.TheVariants.{Zero, One, Free}
use Rattle.tt_core.specs.Live.{is_live}

-- one cell is 0 and the other 1
abbrev pub are_opposite : Cell → Cell → Bool
are_opposite Zero Zero = false
are_opposite Zero One = true
are_opposite Zero Free = false
are_opposite One Zero = true
are_opposite One One = false
are_opposite One Free = false
are_opposite Free cell = false

-- Input j is in the support of output h (the output uses it): on two rows that differ in that input
-- alone, its cells are 0 and 1.
-- Example: the table 0011 of two inputs uses x1, by rows 0 and 2, and not x2; 0--1 uses neither.
pub record IsInSupport (s : Specification) (j h : ℕ) : Type 0 where
  pub row : ℕ
  pub other : ℕ
  pub inside : (row < 2 ^ s.inputs) × (other < 2 ^ s.inputs)
  pub alone : (i : ℕ) → 1 ≤ i → i ≤ s.inputs → (i ≡ j → ⊥) → input s.inputs row i ≡ input s.inputs other i
  pub asked : are_opposite (s.cell h row) (s.cell h other) ≡ true

-- Different inputs, each in the support of one of the outputs.
-- Example: of the tables 0110 and 0011, the first uses both inputs, and the second x1 alone.
pub record AreInSupports (s : Specification) (inputs outputs : List ℕ) : Type 0 where
  pub numbers : (h : ℕ) → Contains outputs h → (1 ≤ h) × (h ≤ s.outputs)
  pub different : AllPairs (λ (i j : ℕ). i ≡ j → ⊥) inputs
  pub used : (j : ℕ) → Contains inputs j → (h : ℕ) × Contains outputs h × IsInSupport s j h

-- Two outputs differ: on some row one of them has the cell 0 and the other 1.
-- Example: 0110 and 01-1 differ on row 3, and 0110 and 01-0 don't.
pub record OutputsDiffer (s : Specification) (g h : ℕ) : Type 0 where
  pub row : ℕ
  pub inside : row < 2 ^ s.inputs
  pub asked : are_opposite (s.cell g row) (s.cell h row) ≡ true

-- Live outputs that differ pairwise.
-- Example: of the tables 0110, 1001 and 0011 of two inputs, the first two.
pub record AreLiveApart (s : Specification) (outputs : List ℕ) : Type 0 where
  pub numbers : (h : ℕ) → Contains outputs h → (1 ≤ h) × (h ≤ s.outputs)
  pub live : (h : ℕ) → Contains outputs h → is_live s h ≡ true
  pub apart : AllPairs (OutputsDiffer s) outputs
