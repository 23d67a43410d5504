-- Each round so far has changed the net.
use Rattle.std.specs.Prelude.{◌≡◌}
use Rattle.resyn_core.specs.Resynthesized.{HasRounds}
use Rattle.resyn_core.proofs.resynthesizing.resynthesize.Given as goal

abbrev pub invariant-loop-round : goal.invariant-loop-round
invariant-loop-round g l =
    HasRounds l._round (g.T.Attempts.settings_of l.initial.attempts) (g.T.Attempts.settings_of l.attempts) (g.T.Attempts.net_of l.initial.attempts) (g.T.Attempts.net_of l.attempts)
    × (l.rounds ≡ (g.T.Attempts.settings_of l.initial.attempts).rounds)
