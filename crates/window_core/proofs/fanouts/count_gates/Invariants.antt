use Rattle.std.proofs.Common.{ℕ, ◌<◌, length}
use Rattle.std.specs.Prelude.{slice_index_or}
use Rattle.window_core.specs.Fanouts.{named_by_gate, sum_gates}
use Rattle.window_core.specs.Noting.{AreBefore, IsCounting}
use Rattle.window_core.proofs.fanouts.count_gates.Given as goal

abbrev pub invariant-loop-gate : goal.invariant-loop-gate
invariant-loop-gate l = record {
  counting : IsCounting (λ p. sum_gates (λ q g. named_by_gate p g) 0 l.gates) (λ p. sum_gates (λ q g. named_by_gate p g) 0 l.left) l.initial.uses l.uses;
  before : AreBefore (length l.uses) l.left;
  small : (p : ℕ) → slice_index_or l.uses p 0 < 256;
}

abbrev pub decreases-loop-gate : goal.decreases-loop-gate
decreases-loop-gate l = length l.left
