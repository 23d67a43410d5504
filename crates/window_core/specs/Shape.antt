-- The invariant of every window of the program: short ascending lists.
use Rattle.std.specs.Prelude.{◌≤◌, length}
use Rattle.window_theory.specs.Nodes.{IsRising}
use Rattle.window_theory.specs.Window.{Window}
use Rattle.chain_theory.specs.Limits.{most_inputs, most_outputs}
use Rattle.settings.specs.Limits.{most_gates_of_window}

pub record IsShaped (w : Window) : Type 0 where
  pub gates : IsRising w.gates
  pub inputs : IsRising w.inputs
  pub outputs : IsRising w.outputs
  pub some_gates : 1 ≤ length w.gates
  pub few_gates : length w.gates ≤ most_gates_of_window
  pub few_inputs : length w.inputs ≤ most_inputs
  pub few_outputs : length w.outputs ≤ most_outputs
