use Rattle.std.proofs.Common.{ℕ, ◌≤◌, ◌<◌, ◌^◌}
use Rattle.tt_core.specs.Words.{specification}
use Rattle.chain_core.specs.Rows.{AreMetBelow}
use Rattle.chain_core.proofs.difference.first_difference.Given as goal

abbrev pub invariant-loop-h : goal.invariant-loop-h
invariant-loop-h l = (g : ℕ) → 1 ≤ g → g < l.h → AreMetBelow l.chain (specification l.spec) g (2 ^ l.spec.n)
