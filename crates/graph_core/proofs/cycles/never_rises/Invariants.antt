use Rattle.std.proofs.Common.{◌≡◌, ℕ, ◌<◌, ◌≤◌, true}
use Rattle.std.specs.Prelude.{slice_index}
use Rattle.graph_core.specs.Visit.{fanins_of, has_ended}
use Rattle.graph_core.proofs.cycles.never_rises.Given as goal

abbrev pub invariant-loop-node : goal.invariant-loop-node
invariant-loop-node l = (t u : ℕ) → t < l.node → has_ended (fanins_of l.graph t) u ≡ true → slice_index l.numbers u ≤ slice_index l.numbers t
