use Rattle.std.proofs.Common.{ℕ, ◌≤◌}
use Rattle.tt_core.specs.Words.{specification}
use Rattle.npn_core.specs.Kept.{IsKeptOutput}
use Rattle.npn_core.proofs.kept.is_kept.Given as goal

abbrev pub invariant-loop-before : goal.invariant-loop-before
invariant-loop-before l = (h : ℕ) → 1 ≤ h → h ≤ l.before → IsKeptOutput (specification l.spec) l.p l.q l.k l.flag h
