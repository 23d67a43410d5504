-- The new net is the one in which structurally equal gates were merged.
use Rattle.std.proofs.Common.{ap}
use Rattle.window_attempt.specs.Attempting.{Attempting}
use Rattle.window_attempt.specs.MergedLaws.{shrunk_by}
use Rattle.window_attempt.proofs.attempting.WindowAttemptsAttempts.strash.Goals as goal

pub returns-in_ok-put-in-Some-clause-merged : goal.returns-in_ok-put-in-Some-clause-merged
returns-in_ok-put-in-Some-clause-merged g c =
    shrunk_by c.args.self.now.settings c.args.self.now.net c.self.inside.net c.put.new.self.net c.in-Some.net c.in_ok-merged.field-0
    (ap (λ (t : Attempting). t.net) c.self.view_is) c.in_ok-put-in-Some.ensures.net c.in-Some.is c.in_ok-merged.ensures.replaces c.in_ok-merged.ensures.less
