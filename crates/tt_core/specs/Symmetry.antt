-- Symmetric variables: inputs that may be exchanged.
use Rattle.std.specs.Prelude.{◌≡◌, ℕ, ◌^◌, ◌≤◌, ◌<◌, Bool, ◌==◌, if◌then◌else◌}
use Rattle.chain_theory.specs.Specification.{Specification, input}
use Rattle.chain_theory.specs.Rows.{row_of}

-- the names p and q exchanged
abbrev pub renamed : ℕ → ℕ → ℕ → ℕ
renamed p q j = if j == p then q else (if j == q then p else j)

-- the bit of input j of n on row t with the bits of inputs p and q exchanged
abbrev pub exchanged_bit : ℕ → ℕ → ℕ → ℕ → ℕ → Bool
exchanged_bit n p q t j = input n t (renamed p q j)

-- Row t of n inputs with the bits of inputs p and q exchanged.
-- Example: row 4 of three inputs is 100; with inputs 1 and 3 exchanged it is 001, row 1.
abbrev pub exchanged : ℕ → ℕ → ℕ → ℕ → ℕ
exchanged n p q t = row_of n (exchanged_bit n p q t)

-- exchanging inputs p and q changes no cell of output h
abbrev pub IsSymmetricOutput : Specification → ℕ → ℕ → ℕ → Type 0
IsSymmetricOutput s p q h = (t : ℕ) → t < 2 ^ s.inputs → s.cell h (exchanged s.inputs p q t) ≡ s.cell h t

-- Exchanging inputs p and q changes no cell of any output.
-- Example: the two inputs of XOR may be exchanged, and those of the table 0010 may not.
abbrev pub IsSymmetric : Specification → ℕ → ℕ → Type 0
IsSymmetric s p q = (h : ℕ) → 1 ≤ h → h ≤ s.outputs → IsSymmetricOutput s p q h
