use Rattle.std.proofs.Common.{ℕ, ◌≤◌}
use Rattle.tt_core.specs.Symmetry.{IsSymmetricOutput}
use Rattle.tt_core.specs.Words.{specification}
use Rattle.tt_core.proofs.symmetry.symmetric.Given as goal

abbrev pub invariant-loop-before : goal.invariant-loop-before
invariant-loop-before l = (h : ℕ) → 1 ≤ h → h ≤ l.before → IsSymmetricOutput (specification l.spec) l.p l.q h
