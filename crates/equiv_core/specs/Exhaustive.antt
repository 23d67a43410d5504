-- The exhaustive comparison of two nets.
use Rattle.std.specs.Prelude.{◌≡◌, ℕ, ◌+◌, ◌*◌, ◌^◌, ◌≤◌, Bool, List, length}
use Rattle.net_theory.specs.Net.{Net, bit_of}
use Rattle.equiv_theory.specs.Counterexample.{DifferAt}

-- No sink differs under any assignment that gives the first sources the values `bits`.
pub record HasNoneUnder (first second : Net) (bits : List Bool) : Type 0 where
  pub none : (given : ℕ → Bool) (i : ℕ) → ((p : ℕ) → 1 ≤ p → p ≤ length bits → given p ≡ bit_of bits p) → DifferAt first second given i → ⊥

-- Nets with few sources (inputs): at most 12, and over all assignments at most 1,000,000,000 values of gates and
-- sinks.
pub record IsNarrow (first second : Net) : Type 0 where
  pub sources : first.sources ≤ 12
  pub values : ((length first.gates + length second.gates) + (length first.sinks + length second.sinks)) * 2 ^ first.sources ≤ 1000000000
