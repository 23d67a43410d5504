use Rattle.chain_app.specs.Pair.{KeepsPair}
use Rattle.batsokemi_c.specs.CalledLaws.{no_read_fault}
use Rattle.batsokemi_c.specs.PairLaws.{pair_reads}
use Rattle.batsokemi_c.proofs.laws.pairs_never_fail_to_read.Goals as goal

pub returns : goal.returns
returns c = λ command first. no_read_fault (KeepsPair first) (pair_reads first) command
