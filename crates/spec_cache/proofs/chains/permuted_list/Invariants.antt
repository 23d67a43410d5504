use Rattle.std.proofs.Common.{◌≡◌, ◌++◌, length, map}
use Rattle.spec_cache.specs.ListLaws.{permuted_step}
use Rattle.spec_cache.proofs.chains.permuted_list.Given as goal

abbrev pub invariant-loop-step : goal.invariant-loop-step
invariant-loop-step l = l.permuted.items ++ map (permuted_step l.n l.order) l.left ≡ map (permuted_step l.n l.order) l.steps

abbrev pub decreases-loop-step : goal.decreases-loop-step
decreases-loop-step l = length l.left
