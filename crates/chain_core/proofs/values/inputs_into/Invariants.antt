use Rattle.std.proofs.Common.{◌≡◌, ℕ, ◌≤◌, ◌<◌}
use Rattle.chain_theory.specs.Specification.{input}
use Rattle.chain_core.specs.Bits.{bits}
use Rattle.chain_core.proofs.values.inputs_into.Given as goal

abbrev pub invariant-loop-place : goal.invariant-loop-place
invariant-loop-place l = (p : ℕ) → 1 ≤ p → p < l.place → bits l.values p ≡ input l.n l.row p
