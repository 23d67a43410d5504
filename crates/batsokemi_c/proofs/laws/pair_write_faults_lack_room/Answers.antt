use Rattle.chain_app.specs.Pair.{KeepsPair}
use Rattle.batsokemi_c.specs.CalledLaws.{write_fault_lacks}
use Rattle.batsokemi_c.specs.PairLaws.{pair_writes}
use Rattle.batsokemi_c.proofs.laws.pair_write_faults_lack_room.Goals as goal

pub returns : goal.returns
returns c = λ command first. write_fault_lacks (KeepsPair first) (pair_writes first) command
