-- Specifications: truth tables of several outputs over n inputs, with don't-cares (TAOCP 7.1.2).
use Rattle.std.specs.Prelude.{ℕ, Bool, ◌-◌}
use Rattle.chain_theory.specs.Operator.{digit}
use Rattle.chain_theory.specs.declared.data.Cell.{Cell}

-- Outputs are numbered from 1. The rows (minterms) are 0 to 2 ^ inputs - 1, and each output has a
-- cell for each.
-- Example: XOR of two inputs has one output, with the cells 0, 1, 1, 0 on rows 0, 1, 2, 3.
pub record Specification : Type 0 where
  pub inputs : ℕ
  pub outputs : ℕ
  pub cell : ℕ → ℕ → Cell

-- the bit of input j of n on row t: x1 is the most significant bit of the row (in kitty and ABC it is
-- the least significant)
-- Example: row 4 of three inputs is 100, so x1 is 1 there, and x2 and x3 are 0.
abbrev pub input : ℕ → ℕ → ℕ → Bool
input n t j = digit t (n - j)
