use Rattle.chain_app.specs.Pair.{KeepsPair}
use Rattle.batsokemi_c.specs.CalledLaws.{line_stands}
use Rattle.batsokemi_c.specs.PairLaws.{pair_tells}
use Rattle.batsokemi_c.proofs.laws.pair_error_lines_stand.Goals as goal

pub returns : goal.returns
returns c = λ command first. line_stands (KeepsPair first) (pair_tells first) command
