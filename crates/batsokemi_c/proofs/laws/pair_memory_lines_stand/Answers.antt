use Rattle.chain_app.specs.Pair.{KeepsPair}
use Rattle.batsokemi_c.specs.CalledLaws.{memory_stands}
use Rattle.batsokemi_c.specs.PairLaws.{pair_tells_memory}
use Rattle.batsokemi_c.proofs.laws.pair_memory_lines_stand.Goals as goal

pub returns : goal.returns
returns c = λ command first. memory_stands (KeepsPair first) (pair_tells_memory first) command
