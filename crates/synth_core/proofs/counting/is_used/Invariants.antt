use Rattle.std.proofs.Common.{◌≡◌, ◌+◌, false}
use Rattle.tt_core.specs.Words.{specification}
use Rattle.bound_core.specs.Counts.{some_below}
use Rattle.synth_core.specs.UsedInputs.{output_uses}
use Rattle.synth_core.proofs.counting.is_used.Given as goal

abbrev pub invariant-loop-output : goal.invariant-loop-output
invariant-loop-output l = some_below (output_uses (specification l.spec) (l.before + 1)) l.output ≡ false
