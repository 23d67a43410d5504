use Rattle.chain_app.specs.KeepsPromises.{KeepsPromises}
use Rattle.batsokemi_c.specs.CalledLaws.{answered_steady}
use Rattle.batsokemi_c.proofs.laws.calls_have_steady_runs.Goals as goal

pub returns : goal.returns
returns c = answered_steady KeepsPromises
