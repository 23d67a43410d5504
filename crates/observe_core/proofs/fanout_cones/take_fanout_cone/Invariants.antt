use Rattle.observe_core.specs.Following.{IsConeTaking}
use Rattle.observe_core.proofs.fanout_cones.take_fanout_cone.Given as goal

abbrev pub invariant-loop-taken : goal.invariant-loop-taken
invariant-loop-taken l = IsConeTaking l.net l.initial.all.items l._taken l.all.items l.fanout_cone.items
