use Rattle.std.proofs.Common.{◌∙◌, sym, subst}
use Rattle.observe_core.specs.Putting.{ArePutGates}
use Rattle.observe_core.specs.PuttingLaws.{put_is_cone, all_nodes}
use Rattle.observe_core.specs.DifferingLaws.{put_words}
use Rattle.observe_core.proofs.output_differences.put_words.Goals as goal

pub simulate_above-requires-clause-cone : goal.simulate_above-requires-clause-cone
simulate_above-requires-clause-cone c =
    put_is_cone c.args.forced.net.now c.args.forced.outputs.now c.args.bits c.args.forced.fanin_cone.now
    c.args.forced.fanout_cone.now c.deref.result.now c.sources-sources.ensures.net c.leaves-leaves.ensures.whole
    c.requires.above
    (subst (ArePutGates c.args.forced.net.now c.args.forced.outputs.now c.args.bits c.args.forced.fanout_cone.now) (sym c.deref.ensures.value) c.in_ok-gates.ensures)

pub simulate_above-requires-clause-index : goal.simulate_above-requires-clause-index
simulate_above-requires-clause-index c =
    let are : ArePutGates c.args.forced.net.now c.args.forced.outputs.now c.args.bits c.args.forced.fanout_cone.now
    c.deref.result.now = subst (ArePutGates c.args.forced.net.now c.args.forced.outputs.now c.args.bits
    c.args.forced.fanout_cone.now) (sym c.deref.ensures.value) c.in_ok-gates.ensures in
    c.args.forced.indexed ∙ sym (all_nodes c.args.forced.fanin_cone.now c.deref.result.now c.args.forced.fanout_cone.now are.nodes)

pub returns-clause-put : goal.returns-clause-put
returns-clause-put c =
    put_words c.args.forced.net.now c.args.forced.outputs.now c.args.bits c.args.forced.fanin_cone.now
    c.args.forced.fanout_cone.now c.deref.result.now c.simulate_above.new.words c.sources-sources.ensures.net
    c.leaves-leaves.ensures.whole c.requires.above
    (subst (ArePutGates c.args.forced.net.now c.args.forced.outputs.now c.args.bits c.args.forced.fanout_cone.now) (sym c.deref.ensures.value) c.in_ok-gates.ensures)
    c.in_ok-simulate_above.ensures.words
