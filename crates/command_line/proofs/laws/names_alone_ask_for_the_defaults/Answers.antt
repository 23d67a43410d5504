use Rattle.std.proofs.Common.{refl}
use Rattle.command_line.specs.CommandLine.{command_of, are_options, word_after}
use Rattle.command_line.proofs.laws.names_alone_ask_for_the_defaults.Goals as goal

pub returns-clause-synth : goal.returns-clause-synth
unfolding command_of are_options word_after
returns-clause-synth c = refl

pub returns-clause-improve : goal.returns-clause-improve
unfolding command_of are_options word_after
returns-clause-improve c = refl

pub returns-clause-bench : goal.returns-clause-bench
unfolding command_of are_options word_after
returns-clause-bench c = refl
