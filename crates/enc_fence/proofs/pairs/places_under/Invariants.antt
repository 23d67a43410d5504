use Rattle.std.proofs.Common.{◌≡◌, ◌+◌, ◌≤◌, length}
use Rattle.enc_theory.specs.Fence.{places_under}
use Rattle.enc_fence.proofs.pairs.places_under.Given as goal

abbrev pub invariant-loop-size : goal.invariant-loop-size
invariant-loop-size l = record {
  places : places_under l.first l.count l.left l.index ≡ places_under 1 l.n l.levels l.k;
  from : 1 ≤ l.first;
  room : l.first + l.count + l.index ≡ l.n + 1 + l.k;
}

abbrev pub decreases-loop-size : goal.decreases-loop-size
decreases-loop-size l = length l.left
