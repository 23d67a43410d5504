-- NPN symmetry of two inputs: an exchange of the two, with some inputs complemented, that keeps the table up to a
-- complement of all outputs.
use Rattle.std.proofs.Common.{◌≡◌, ℕ, ◌-◌, ◌^◌, ◌≤◌, ◌<◌, Bool, true, false, refl, ap, ◌∙◌, arith}
use Rattle.chain_theory.specs.Specification.{Specification, input}
use Rattle.chain_theory.specs.Agreement.{is_met}
use Rattle.chain_theory.specs.Rows.{row_of, row_digit, row_low}
use Rattle.chain_theory.specs.declared.data.Cell.{Cell}
use Rattle.chain_theory.specs.declared.data.Cell.TheVariants.{Zero, One, Free}
use Rattle.tt_core.specs.Symmetry.{renamed, exchanged_bit}
use Rattle.chain_laws.specs.Complemented.{flip}
use Rattle.chain_laws.specs.Renamed.{renamed_back, renamed_from, renamed_low}

-- ---- rows and cells

-- the bit of input j on row t with the bits of inputs p and q exchanged, and then complemented where row k has a 1
abbrev pub image_bit : ℕ → ℕ → ℕ → ℕ → ℕ → ℕ → Bool
image_bit n p q k t j = flip (input n k j) (exchanged_bit n p q t j)

-- Row t of n inputs with inputs p and q exchanged, and then those inputs complemented that are 1 on row k: so row k
-- is the image of row 0.
-- Example: row 4 of three inputs is 100; with inputs 1 and 3 exchanged it is 001, and with input 2 complemented (row
-- 2 is 010) it is 011, row 3.
abbrev pub image : ℕ → ℕ → ℕ → ℕ → ℕ → ℕ
image n p q k t = row_of n (image_bit n p q k t)

-- a cell, complemented where the flag is set; a free cell stays free
abbrev pub complemented_cell : Bool → Cell → Cell
complemented_cell false cell = cell
complemented_cell true Zero = One
complemented_cell true One = Zero
complemented_cell true Free = Free

-- ---- NPN symmetry

-- the cell of each output on the image of a row is its cell on the row, complemented where the flag is set
abbrev pub IsKept : Specification → ℕ → ℕ → ℕ → Bool → Type 0
IsKept s p q k b = (h t : ℕ) → 1 ≤ h → h ≤ s.outputs → t < 2 ^ s.inputs →
    s.cell h (image s.inputs p q k t) ≡ complemented_cell b (s.cell h t)

-- Inputs p and q may be exchanged, if some inputs are complemented, and all outputs or none.
-- Example: the table 0010 of x1 AND NOT x2 is kept when its inputs are exchanged and both complemented. So is 0110 of
-- XOR with one input complemented, if its output is.
-- With one flag for each output the rule below would be wrong: where two outputs have free cells, one step may drive
-- both. An example are the cells 10----01 and ----10--, and inputs 1 and 2: NOT (x2 XOR x3) drives both outputs.
abbrev pub IsExchangeable : Specification → ℕ → ℕ → Type 0
IsExchangeable s p q = (k : ℕ) × (k < 2 ^ s.inputs) × ((b : Bool) × IsKept s p q k b)

-- ---- laws

-- The image gives each input the bit of its exchanged partner, complemented where row k has a 1.
pub image_input : (n p q k t j : ℕ) → 1 ≤ j → j ≤ n → input n (image n p q k t) j ≡ image_bit n p q k t j
image_input n p q k t j from low = row_digit (image_bit n p q k t) n (n - j) j (omega arith) from

pub image_low : (n p q k t : ℕ) → image n p q k t < 2 ^ n
image_low n p q k t = row_low (image_bit n p q k t) n

-- So the image gives the exchanged partner of an input the input's own bit, complemented.
pub image_partner : (n p q k t j : ℕ) → 1 ≤ p → p ≤ n → 1 ≤ q → q ≤ n → 1 ≤ j → j ≤ n →
    input n (image n p q k t) (renamed p q j) ≡ flip (input n k (renamed p q j)) (input n t j)
image_partner n p q k t j p_from p_low q_from q_low from low =
    image_input n p q k t (renamed p q j) (renamed_from p q j p_from q_from from) (renamed_low p q j n p_low q_low low)
    ∙ ap (λ (x : ℕ). flip (input n k (renamed p q j)) (input n t x)) (renamed_back p q j)

-- A complemented bit meets a cell exactly if the bit meets the complemented cell.
pub met_complemented : (b : Bool) (cell : Cell) (bit : Bool) → is_met cell (flip b bit) ≡ is_met (complemented_cell b cell) bit
met_complemented false cell bit = refl
met_complemented true Zero true = refl
met_complemented true Zero false = refl
met_complemented true One true = refl
met_complemented true One false = refl
met_complemented true Free true = refl
met_complemented true Free false = refl
