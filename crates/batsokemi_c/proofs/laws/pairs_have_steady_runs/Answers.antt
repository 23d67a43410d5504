use Rattle.chain_app.specs.Pair.{KeepsPair}
use Rattle.batsokemi_c.specs.CalledLaws.{answered_steady}
use Rattle.batsokemi_c.proofs.laws.pairs_have_steady_runs.Goals as goal

pub returns : goal.returns
returns c = λ command first. answered_steady (KeepsPair first) command
