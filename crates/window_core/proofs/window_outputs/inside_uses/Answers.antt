use Rattle.window_core.specs.SeenLaws.{counted_more, counted_end}
use Rattle.window_core.proofs.window_outputs.inside_uses.Goals as goal

pub loop-inside-preserved : goal.loop-inside-preserved
loop-inside-preserved c =
    counted_more c.args.net.now c.args.gates.now c.loop-inside.left.now c.in-Some.inside.now c.in-Some.rest.now c.args.node c.gate_at.result.now c.loop-inside.uses c.named_in-uses.result
    c.in-Some.ensures.cases.0 c.gate_at.ensures.gate c.named_in-uses.ensures.value c.named_in-uses.ensures.few c.loop-inside.invariant

pub returns-clause-value : goal.returns-clause-value
returns-clause-value c = counted_end c.args.net.now c.args.gates.now c.loop-inside.left.now c.args.node c.loop-inside.uses c.in_default.ensures.cases c.loop-inside.invariant
