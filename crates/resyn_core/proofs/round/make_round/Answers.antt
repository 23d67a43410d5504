-- One more root was attempted, and in the end all.
use Rattle.std.specs.Prelude.{◌≡◌, ◌+◌, ◌≤◌, ◌<◌}
use Rattle.std.proofs.Common.{ap, ◌∙◌, arith}
use Rattle.net_theory.specs.Net.{Net, end_of}
use Rattle.resyn_core.specs.Resynthesized.{loop_state}
use Rattle.resyn_core.specs.ResynthesizedLaws.{roots_start, roots_more, roots_end}
use Rattle.resyn_core.proofs.round.make_round.Goals as goal

pub loop-root-preserved : goal.loop-root-preserved
loop-root-preserved g c = (
  roots_more
      (loop_state (g.T.Attempts.settings_of c.args.attempts.now) (g.T.Attempts.net_of c.args.attempts.now) c.args.round.now)
      (loop_state (g.T.Attempts.settings_of c.loop-root.attempts) (g.T.Attempts.net_of c.loop-root.attempts) c.loop-root.round)
      (loop_state (g.T.Attempts.settings_of c.attempt_root.new.attempts) (g.T.Attempts.net_of c.attempt_root.new.attempts) c.attempt_root.new.round)
      c.loop-root.root c.loop-root.invariant.0 c.in_ok-attempt_root.ensures,
  (let more : c.loop-root.root < c.end_node-end.result = c.loop-root-test.true in omega (arith, more)),
)

pub returns : goal.returns
returns g c =
    let end : c.end_node-end.result ≡ end_of (g.T.Attempts.net_of c.args.attempts.now) = c.end_node-end.ensures ∙ ap end_of c.net-2.ensures in
    let most : c.loop-root.root ≤ c.end_node-end.result = c.loop-root.invariant.1 in
    let last : c.loop-root.root ≡ end_of (g.T.Attempts.net_of c.args.attempts.now) = omega (arith, end, most, c.loop-root-test.false) in
    roots_end
    (loop_state (g.T.Attempts.settings_of c.args.attempts.now) (g.T.Attempts.net_of c.args.attempts.now) c.args.round.now)
    (loop_state (g.T.Attempts.settings_of c.loop-root.attempts) (g.T.Attempts.net_of c.loop-root.attempts) c.loop-root.round)
    (g.T.Attempts.settings_of c.args.attempts.now).cap c.loop-root.root (end_of (g.T.Attempts.net_of c.args.attempts.now)) last c.loop-root.invariant.0

pub loop-root-init : goal.loop-root-init
loop-root-init g c =
    let n = g.T.Attempts.net_of c.args.attempts.now in
    let first : c.first_node-first.result ≡ n.sources + 1 = c.first_node-first.ensures ∙ ap (λ (m : Net). m.sources + 1) c.net.ensures in
    let end : c.end_node-end.result ≡ end_of n = c.end_node-end.ensures ∙ ap end_of c.net-2.ensures in (
      roots_start (loop_state (g.T.Attempts.settings_of c.args.attempts.now) n c.args.round.now) (g.T.Attempts.settings_of c.args.attempts.now).cap c.first_node-first.result first,
      omega (arith, first, end),
    )
