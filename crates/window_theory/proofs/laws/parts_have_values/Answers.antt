use Rattle.window_theory.specs.FixedLaws.{with_source, with_fixed, with_gate, with_same, part_values, window_same}
use Rattle.window_theory.proofs.laws.parts_have_values.Goals as goal

pub returns-clause-source : goal.returns-clause-source
returns-clause-source c = with_source

pub returns-clause-fixed : goal.returns-clause-fixed
returns-clause-fixed c = with_fixed

pub returns-clause-gate : goal.returns-clause-gate
returns-clause-gate c = with_gate

pub returns-clause-part : goal.returns-clause-part
returns-clause-part c = part_values

pub returns-clause-window : goal.returns-clause-window
returns-clause-window c = window_same

pub returns-clause-same : goal.returns-clause-same
returns-clause-same c = with_same
