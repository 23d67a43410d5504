use Rattle.chain_app.specs.KeepsPromises.{KeepsPromises}
use Rattle.batsokemi_c.specs.CalledLaws.{line_stands}
use Rattle.batsokemi_c.specs.AnsweringLaws.{promises_tell}
use Rattle.batsokemi_c.proofs.laws.error_lines_stand.Goals as goal

pub returns : goal.returns
returns c = line_stands KeepsPromises promises_tell
