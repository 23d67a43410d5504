use Rattle.std.proofs.Common.{◌≡◌, ◌+◌, ◌≤◌}
use Rattle.frame_core.proofs.Streams.{IsTaking}
use Rattle.frame_core.proofs.streaming.read_pieces.Given as goal

-- What this call consumed is what it has kept, and every iteration consumed at least one byte.
abbrev pub invariant-loop-turn : goal.invariant-loop-turn
invariant-loop-turn g l =
    record {
      taking : IsTaking l.most l.room (g.S.Source.left l.initial.source) (g.S.Source.left l.source) (λ bytes. g.J.StreamJob.holds l.job l.kept bytes);
      whole : g.J.StreamJob.whole l.job l.kept;
      turns : l._turn + l.room ≤ l.most;
      counted : g.J.StreamJob.count l.job l.kept + l.room ≤ l.most;
      never_falls : g.S.Source.faults l.initial.source ≤ g.S.Source.faults l.source;
      faultless : g.S.Source.faults l.source ≡ g.S.Source.faults l.initial.source;
    }
