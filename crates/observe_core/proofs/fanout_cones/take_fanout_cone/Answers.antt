use Rattle.std.proofs.Common.{ℕ, List, refl, ap, sym, subst, arith, ◌∙◌}
use Rattle.window_theory.specs.Nodes.{among}
use Rattle.window_theory.specs.WindowLaws.{gate_high}
use Rattle.observe_core.specs.Following.{IsNextFollower}
use Rattle.observe_core.specs.TakingLaws.{taking_start, taking_more, taking_none, taking_end}
use Rattle.observe_core.proofs.fanout_cones.take_fanout_cone.Goals as goal

pub loop-taken-init : goal.loop-taken-init
loop-taken-init c = taking_start c.args.net.now c.args.all.now.items c.args.all.now.items c.args.fanout_cone.now.items refl c.requires.rising c.requires.gates c.requires.none

pub next_follower-node-requires-clause-gates : goal.next_follower-node-requires-clause-gates
next_follower-node-requires-clause-gates c = λ p e. (gate_high c.args.net.now p (c.loop-taken.invariant.are p (ap (λ (xs : List ℕ). among xs p) (sym c.deref.ensures.value) ∙ e))).1

pub returns-then-node-eq0 : goal.returns-then-node-eq0
returns-then-node-eq0 c =
    taking_none c.args.net.now c.args.all.now.items c.loop-taken.all.items c.loop-taken.fanout_cone.items
    c.loop-taken._taken c.next_follower-node.result (omega (arith, c.loop-taken-test.true)) c.if-node-eq0.true
    (subst (λ (xs : List ℕ). IsNextFollower c.args.net.now xs c.next_follower-node.result) c.deref.ensures.value c.next_follower-node.ensures) c.loop-taken.invariant

pub put-requires : goal.put-requires
put-requires c = c.loop-taken.invariant.rising

pub loop-taken-preserved : goal.loop-taken-preserved
loop-taken-preserved c =
    taking_more c.args.net.now c.args.all.now.items c.loop-taken.all.items c.loop-taken.fanout_cone.items
    c.put.new.nodes.items c.push.new.self.items c.loop-taken._taken c.next_follower-node.result
    c.sources-sources.ensures.net c.if-node-eq0.false
    (subst (λ (xs : List ℕ). IsNextFollower c.args.net.now xs c.next_follower-node.result) c.deref.ensures.value
    c.next_follower-node.ensures) c.in_ok-put.ensures c.in_ok-push.ensures.items c.loop-taken.invariant

pub returns : goal.returns
returns c = taking_end c.args.net.now c.args.all.now.items c.loop-taken.all.items c.loop-taken.fanout_cone.items
    c.loop-taken._taken (omega (arith, c.loop-taken-test.false, c.loop-taken.auto._taken-end)) c.loop-taken.invariant
