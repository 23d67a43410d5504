use Rattle.std.proofs.Common.{ℕ, ◌<◌, length}
use Rattle.std.specs.Prelude.{slice_index_or}
use Rattle.std.specs.List.{All}
use Rattle.window_core.specs.Fanouts.{named_by_sinks}
use Rattle.window_core.specs.Noting.{IsOperandBelow, IsCounting}
use Rattle.window_core.proofs.fanouts.count_sinks.Given as goal

abbrev pub invariant-loop-sink : goal.invariant-loop-sink
invariant-loop-sink l = record {
  counting : IsCounting (λ p. named_by_sinks p l.sinks) (λ p. named_by_sinks p l.left) l.initial.uses l.uses;
  before : All (IsOperandBelow (length l.uses)) l.left;
  small : (p : ℕ) → slice_index_or l.uses p 0 < 256;
}

abbrev pub decreases-loop-sink : goal.decreases-loop-sink
decreases-loop-sink l = length l.left
