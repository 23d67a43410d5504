-- A root without a partner and with each of them.
use Rattle.resyn_core.specs.Resynthesized.{loop_state}
use Rattle.resyn_core.specs.ResynthesizedLaws.{root_made}
use Rattle.resyn_core.proofs.round.attempt_root.Goals as goal

pub returns : goal.returns
returns g c =
    root_made
    (loop_state (g.T.Attempts.settings_of c.args.attempts.now) (g.T.Attempts.net_of c.args.attempts.now) c.args.round.now)
    (loop_state (g.T.Attempts.settings_of c.attempt_counts.new.attempts) (g.T.Attempts.net_of c.attempt_counts.new.attempts) c.attempt_counts.new.round)
    (loop_state (g.T.Attempts.settings_of c.attempt_partners.new.attempts) (g.T.Attempts.net_of c.attempt_partners.new.attempts) c.attempt_partners.new.round)
    c.args.root c.in_ok-attempt_counts.ensures c.in_ok-attempt_partners.ensures
