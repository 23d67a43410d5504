-- The candidates of the roots so far were attempted.
use Rattle.std.specs.Prelude.{◌≤◌}
use Rattle.improve_theory.specs.Candidates.{IsOfRoots}
use Rattle.resyn_core.specs.Resynthesized.{loop_state, IsResynthesized}
use Rattle.resyn_core.proofs.round.make_round.Given as goal

abbrev pub invariant-loop-root : goal.invariant-loop-root
invariant-loop-root g l =
    IsResynthesized (IsOfRoots (g.T.Attempts.settings_of l.initial.attempts).cap l.root)
    (loop_state (g.T.Attempts.settings_of l.initial.attempts)
    (g.T.Attempts.net_of l.initial.attempts) l.initial.round)
    (loop_state (g.T.Attempts.settings_of l.attempts) (g.T.Attempts.net_of l.attempts) l.round)
    × (l.root ≤ l.end)
