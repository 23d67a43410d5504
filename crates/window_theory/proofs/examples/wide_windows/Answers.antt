use Rattle.window_theory.specs.Examples.{second_is_first}
use Rattle.window_theory.specs.WindowExamples.{wide_belongs, above_is_refused}
use Rattle.window_theory.proofs.examples.wide_windows.Goals as goal

pub returns-clause-belongs : goal.returns-clause-belongs
returns-clause-belongs c = wide_belongs

pub returns-clause-chain : goal.returns-clause-chain
returns-clause-chain c = second_is_first

pub returns-clause-above : goal.returns-clause-above
returns-clause-above c = above_is_refused
