use Rattle.std.proofs.Common.{◌-◌, arith}
use Rattle.chain_core.specs.Steps.{step_of}
use Rattle.step_core.specs.PruningLaws.{not_false}
use Rattle.step_core.specs.NormalFormLaws.{out_of_order}
use Rattle.step_core.proofs.pruning.may_follow.Goals as goal

pub returns : goal.returns
returns c = λ e w basis left.
    out_of_order w basis c.args.stack.now.steps left c.args.low c.args.high (c.len-count.result - 1)
    (step_of c.step.result) (omega (arith, c.if-count-eq0.false, c.len-count.ensures.count)) c.step.ensures.step
    (c.comes_before.ensures (not_false c.comes_before.result e))
