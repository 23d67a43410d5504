use Rattle.std.proofs.Common.{◌≡◌, ◌++◌, length, map}
use Rattle.spec_cache.specs.OrderLaws.{permuted_out}
use Rattle.spec_cache.proofs.chains.permuted_outs.Given as goal

abbrev pub invariant-loop-out : goal.invariant-loop-out
invariant-loop-out l = l.permuted.items ++ map (permuted_out l.n l.order) l.left ≡ map (permuted_out l.n l.order) l.outs

abbrev pub decreases-loop-out : goal.decreases-loop-out
decreases-loop-out l = length l.left
