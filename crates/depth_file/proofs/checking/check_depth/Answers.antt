-- The laws of the definition, for the verdict that was found.
use Rattle.depth_file.specs.EndLaws.{verdict_read, text_accepted, verdict_holds}
use Rattle.depth_file.proofs.checking.check_depth.Goals as goal

pub returns-clause-verdict : goal.returns-clause-verdict
returns-clause-verdict c = verdict_read c.args.bytes.now c.judge.result c.judge.ensures

pub returns-clause-accepted : goal.returns-clause-accepted
returns-clause-accepted c = λ b is. text_accepted c.args.bytes.now b c.judge.result is c.judge.ensures

pub returns-clause-means : goal.returns-clause-means
returns-clause-means c = verdict_holds c.args.bytes.now c.judge.result c.judge.ensures
