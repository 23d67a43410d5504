-- Bases as numbers of sixteen bits.
use Rattle.std.specs.Prelude.{ℕ}
use Rattle.chain_theory.specs.Operator.{digit, Basis}

-- The set whose members are the operators k for which the digit of 2 ^ k is 1.
-- Example: members 16384 is the set of NAND alone, since 16384 is 2 ^ 14.
abbrev pub members : ℕ → Basis
members set op = digit set op
