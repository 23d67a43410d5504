-- Orders of inputs.
use Rattle.std.specs.Prelude.{◌≡◌, ℕ, ◌-◌, ◌^◌, ◌≤◌, ◌<◌, List, length, slice_index, All}
use Rattle.chain_theory.specs.Operator.{digit}
use Rattle.chain_theory.specs.Rows.{row_of}
use Rattle.chain_theory.specs.Specification.{Specification, input}

abbrev pub IsInput : ℕ → ℕ → Type 0
IsInput n j = (1 ≤ j) × (j ≤ n)

-- Each of n inputs gets the number of an input; the first entry is that of input 1.
-- Example: 2 ∷ 1 ∷ [] exchanges two inputs.
pub record IsOrder (n : ℕ) (order : List ℕ) : Type 0 where
  pub size : length order ≡ n
  pub inputs : All (IsInput n) order

abbrev pub number : List ℕ → ℕ → ℕ
number order j = slice_index order (j - 1)

-- No two inputs get one number: the order is a permutation of the inputs.
pub record IsPermuting (n : ℕ) (order : List ℕ) : Type 0 where
  pub numbers : IsOrder n order
  pub different : (i j : ℕ) → 1 ≤ i → i < j → j ≤ n → number order i ≡ number order j → ⊥

-- The inverse of an order: it maps each new number back to the input that has it.
-- Example: 3 ∷ 1 ∷ 2 ∷ [] is the inverse of 2 ∷ 3 ∷ 1 ∷ [].
pub record IsInverse (n : ℕ) (order back : List ℕ) : Type 0 where
  pub each : (j : ℕ) → 1 ≤ j → j ≤ n → number back (number order j) ≡ j

-- the row that gives input j the value that row t gives the new number of j
abbrev pub permuted_row : ℕ → List ℕ → ℕ → ℕ
permuted_row n order t = row_of n (λ j. input n t (number order j))

-- the word of 2 ^ n rows whose digit t is digit turned_row t of the given word
abbrev pub permuted_word : ℕ → List ℕ → ℕ → ℕ
permuted_word n order word = row_of (2 ^ n) (λ i. digit word (permuted_row n order (2 ^ n - i)))

-- r is s with its inputs permuted.
-- Example: 0010 with its inputs exchanged is 0100.
pub record IsPermuted (s r : Specification) (order : List ℕ) : Type 0 where
  pub inputs : r.inputs ≡ s.inputs
  pub outputs : r.outputs ≡ s.outputs
  pub cell : (h t : ℕ) → 1 ≤ h → h ≤ s.outputs → t < 2 ^ s.inputs → r.cell h t ≡ s.cell h (permuted_row s.inputs order t)
