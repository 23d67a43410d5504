use Rattle.clause_core.specs.ListLaws.{all_rest}
use Rattle.std.proofs.Common.{◌+◌, length}
use Rattle.net_theory.specs.Net.{IsSigBelow, bit_of}
use Rattle.equiv_core.specs.SinkLaws.{one_more}
use Rattle.equiv_values.proofs.simulating.signal_bits.Goals as goal

pub loop-signal-preserved : goal.loop-signal-preserved
loop-signal-preserved c = record {
  below = all_rest (IsSigBelow (length c.args.nodes.now + 1)) c.loop-signal.left.now c.in-Some.rest.now c.in-Some.signal.now c.in-Some.ensures.cases.0 c.loop-signal.invariant.below;
  done = one_more (bit_of c.args.nodes.now) _ _ _ _ _ _ _ c.in-Some.ensures.cases.0 c.in_ok-push.ensures.items c.signal_bit.ensures c.loop-signal.invariant.done;
}
