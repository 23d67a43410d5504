-- One more count was attempted.
use Rattle.std.specs.Prelude.{◌≤◌}
use Rattle.std.proofs.Common.{ap, ◌+◌, arith}
use Rattle.settings.specs.declared.improve.ImproveSettings.{ImproveSettings}
use Rattle.resyn_core.specs.Resynthesized.{loop_state}
use Rattle.resyn_core.specs.ResynthesizedLaws.{counts_start, counts_more}
use Rattle.resyn_core.proofs.round.attempt_counts.Goals as goal

pub loop-count-preserved : goal.loop-count-preserved
loop-count-preserved g c = (
  counts_more
      (loop_state (g.T.Attempts.settings_of c.args.attempts.now) (g.T.Attempts.net_of c.args.attempts.now) c.args.round.now)
      (loop_state (g.T.Attempts.settings_of c.loop-count.attempts) (g.T.Attempts.net_of c.loop-count.attempts) c.loop-count.round)
      (loop_state (g.T.Attempts.settings_of c.attempt_candidate.new.attempts) (g.T.Attempts.net_of c.attempt_candidate.new.attempts) c.attempt_candidate.new.round)
      c.args.root c.args.partner c.args.first c.loop-count.count c.loop-count.invariant.2 c.loop-count.invariant.0 c.in_ok-attempt_candidate.ensures,
  ap (λ (s : ImproveSettings). s.cap + 1) c.settings-end.ensures.value,
  (let from : c.args.first ≤ c.loop-count.count = c.loop-count.invariant.2 in omega (arith, from)),
)

pub loop-count-init : goal.loop-count-init
loop-count-init g c = (
  counts_start (loop_state (g.T.Attempts.settings_of c.args.attempts.now) (g.T.Attempts.net_of c.args.attempts.now) c.args.round.now) c.args.root c.args.partner c.args.first,
  ap (λ (s : ImproveSettings). s.cap + 1) c.settings-end.ensures.value,
  omega arith,
)
