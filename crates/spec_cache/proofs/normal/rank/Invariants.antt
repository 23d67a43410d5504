use Rattle.std.proofs.Common.{◌≡◌, ◌≤◌}
use Rattle.chain_laws.specs.Tallies.{tally}
use Rattle.spec_cache.specs.Ranks.{comes_before}
use Rattle.spec_cache.proofs.normal.rank.Given as goal

abbrev pub invariant-loop-other : goal.invariant-loop-other
invariant-loop-other l = (l.rank ≡ tally (comes_before l.weights l.index) l.other) × (l.rank ≤ l.other)
