use Rattle.std.proofs.Common.{◌≡◌}
use Rattle.chain_theory.specs.Levels.{greatest}
use Rattle.tt_core.specs.Words.{specification}
use Rattle.bound_core.specs.Counts.{single}
use Rattle.bound_core.proofs.bound.most_of_one.Given as goal

abbrev pub invariant-loop-before : goal.invariant-loop-before
invariant-loop-before l = l.most ≡ greatest (single (specification l.spec)) l.before
