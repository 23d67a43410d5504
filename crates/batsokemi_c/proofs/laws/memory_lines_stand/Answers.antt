use Rattle.chain_app.specs.KeepsPromises.{KeepsPromises}
use Rattle.batsokemi_c.specs.CalledLaws.{memory_stands}
use Rattle.batsokemi_c.specs.AnsweringLaws.{promises_tell_memory}
use Rattle.batsokemi_c.proofs.laws.memory_lines_stand.Goals as goal

pub returns : goal.returns
returns c = memory_stands KeepsPromises promises_tell_memory
