use Rattle.std.proofs.Common.{◌≡◌, ◌+◌, ◌^◌, ◌<◌, ◌++◌, length}
use Rattle.std.specs.List.{flat_map}
use Rattle.text_core.specs.Lines.{line_bytes}
use Rattle.chain_core.specs.Steps.{steps_of}
use Rattle.chain_core.specs.Spelling.{step_lines}
use Rattle.chain_core.proofs.writing.push_steps.Given as goal

abbrev pub invariant-loop-step : goal.invariant-loop-step
invariant-loop-step l = record {
  written : l.text.items ++ flat_map line_bytes (step_lines l.place (steps_of l.left)) ≡ l.initial.text.items ++ flat_map line_bytes (step_lines l.first (steps_of l.steps));
  room : l.place + length l.left < 2 ^ 32;
}

abbrev pub decreases-loop-step : goal.decreases-loop-step
decreases-loop-step l = length l.left
