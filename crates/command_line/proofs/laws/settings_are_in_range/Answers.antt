use Rattle.command_line.specs.declared.command.Command.TheVariants.{Synth, LeastDepth, Improve, Equiv, Gen}
use Rattle.command_line.proofs.Ranges.{command_range}
use Rattle.command_line.proofs.laws.settings_are_in_range.Goals as goal

pub returns-clause-synth : goal.returns-clause-synth
returns-clause-synth c words settings = command_range words (Synth settings)

pub returns-clause-least_depth : goal.returns-clause-least_depth
returns-clause-least_depth c words settings = command_range words (LeastDepth settings)

pub returns-clause-improve : goal.returns-clause-improve
returns-clause-improve c words format settings = command_range words (Improve format settings)

pub returns-clause-equiv : goal.returns-clause-equiv
returns-clause-equiv c words budget = command_range words (Equiv budget)

pub returns-clause-blocks : goal.returns-clause-blocks
returns-clause-blocks c words blocks action = command_range words (Gen blocks action)
