-- The candidates with partners from the last one on were attempted.
use Rattle.improve_theory.specs.Candidates.{IsOfPartners}
use Rattle.resyn_core.specs.Resynthesized.{loop_state, IsResynthesized}
use Rattle.resyn_core.proofs.round.attempt_partners.Given as goal

abbrev pub invariant-loop-partner : goal.invariant-loop-partner
invariant-loop-partner g l =
    IsResynthesized (IsOfPartners l.root (g.T.Attempts.settings_of l.initial.attempts).cap l.below)
    (loop_state (g.T.Attempts.settings_of l.initial.attempts)
    (g.T.Attempts.net_of l.initial.attempts) l.initial.round)
    (loop_state (g.T.Attempts.settings_of l.attempts) (g.T.Attempts.net_of l.attempts) l.round)

abbrev pub decreases-loop-partner : goal.decreases-loop-partner
decreases-loop-partner g l = l.below
