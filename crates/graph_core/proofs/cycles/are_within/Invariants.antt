use Rattle.std.proofs.Common.{◌≡◌, ℕ, ◌≤◌, true, take}
use Rattle.std.specs.Prelude.{slice_index}
use Rattle.graph_core.specs.Visit.{has_ended}
use Rattle.graph_core.proofs.cycles.are_within.Given as goal

abbrev pub invariant-loop-read : goal.invariant-loop-read
invariant-loop-read l = (u : ℕ) → has_ended (take l.read-index l.reads) u ≡ true → slice_index l.numbers u ≤ l.number
