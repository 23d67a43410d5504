use Rattle.std.specs.Prelude.{◌++◌, ℕ, List}
use Rattle.std.proofs.Common.{◌∙◌, ap, sym, subst}
use Rattle.net_theory.specs.declared.data.Gate.{Gate}
use Rattle.observe_core.specs.Putting.{ArePutGates}
use Rattle.observe_core.specs.PuttingLaws.{put_all}
use Rattle.observe_core.proofs.with_constants.put_gates.Goals as goal

pub returns : goal.returns
returns c =
    let has = c.in_ok-put_fanout_cone.ensures in
    subst (ArePutGates c.args.net.now c.args.outputs.now c.args.bits c.args.fanout_cone.now) (sym (has.new_is ∙ ap (λ (gs : List (ℕ × Gate)). gs ++ has.put) c.in_ok-gates.ensures.items))
    (put_all c.args.net.now c.args.outputs.now c.args.bits c.args.fanout_cone.now c.in_ok-gates.gates.items c.put_fanout_cone.new.gates.items has)
