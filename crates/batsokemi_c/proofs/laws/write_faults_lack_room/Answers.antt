use Rattle.chain_app.specs.KeepsPromises.{KeepsPromises}
use Rattle.batsokemi_c.specs.CalledLaws.{write_fault_lacks}
use Rattle.batsokemi_c.specs.AnsweringLaws.{promises_write}
use Rattle.batsokemi_c.proofs.laws.write_faults_lack_room.Goals as goal

pub returns : goal.returns
returns c = write_fault_lacks KeepsPromises promises_write
