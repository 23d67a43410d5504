use Rattle.window_theory.specs.Examples.{partner_of_four, partner_of_three}
use Rattle.window_theory.proofs.examples.partners_side_by_side.Goals as goal

pub returns-clause-second : goal.returns-clause-second
returns-clause-second c = partner_of_four

pub returns-clause-first : goal.returns-clause-first
returns-clause-first c = partner_of_three
