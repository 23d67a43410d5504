use Rattle.std.proofs.Common.{refl}
use Rattle.observe_core.specs.TakingLaws.{fanout_cone_code}
use Rattle.observe_core.proofs.fanout_cones.fanout_cone_of.Goals as goal

pub returns : goal.returns
returns c =
    let side_inputs = c.in_ok-side_inputs.ensures in
    fanout_cone_code c.args.net.now c.args.window.now c.args.window.now.gates c.args.all.now c.args.gates.items
    side_inputs.0 c.in_ok-side_inputs.side_inputs.items c.in_ok-outputs.outputs.items
    c.in_ok-cone_outputs.cone_outputs.items
    c.args.all.now side_inputs.0 c.deref.result.now c.args.all.now c.deref-2.result.now c.gates-own.result.now c.gates-own.result.now c.deref-3.result.now c.has_some-directly_observable.result
    refl c.requires.fanout_cone refl side_inputs.1 refl c.deref.ensures.value side_inputs.2 refl
    c.in_ok-outputs.ensures.outputs c.deref-2.ensures.value c.gates-own.ensures.value c.in_ok-cone_outputs.ensures
    c.gates-own.ensures.value c.deref-3.ensures.value c.has_some-directly_observable.ensures.yes c.has_some-directly_observable.ensures.no
