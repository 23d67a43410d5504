-- The candidates of the counts so far were attempted.
use Rattle.std.specs.Prelude.{◌≡◌, ◌≤◌, ◌+◌}
use Rattle.improve_theory.specs.Candidates.{IsOfCounts}
use Rattle.resyn_core.specs.Resynthesized.{loop_state, IsResynthesized}
use Rattle.resyn_core.proofs.round.attempt_counts.Given as goal

abbrev pub invariant-loop-count : goal.invariant-loop-count
invariant-loop-count g l =
    IsResynthesized (IsOfCounts l.root l.partner l.first l.count)
    (loop_state (g.T.Attempts.settings_of l.initial.attempts)
    (g.T.Attempts.net_of l.initial.attempts) l.initial.round)
    (loop_state (g.T.Attempts.settings_of l.attempts) (g.T.Attempts.net_of l.attempts) l.round)
    × (l.end ≡ (g.T.Attempts.settings_of l.initial.attempts).cap + 1)
    × (l.first ≤ l.count)
