use Rattle.window_theory.specs.WindowExamples.{side_by_side_is}
use Rattle.window_theory.proofs.examples.window_of_partners.Goals as goal

pub returns : goal.returns
returns c = side_by_side_is
