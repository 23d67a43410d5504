use Rattle.chain_app.specs.KeepsPromises.{KeepsPromises}
use Rattle.batsokemi_c.specs.CalledLaws.{no_read_fault}
use Rattle.batsokemi_c.specs.AnsweringLaws.{promises_read}
use Rattle.batsokemi_c.proofs.laws.calls_never_fail_to_read.Goals as goal

pub returns : goal.returns
returns c = no_read_fault KeepsPromises promises_read
