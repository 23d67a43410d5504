-- Too few groups.
use Rattle.std.proofs.Common.{◌+◌, arith}
use Rattle.chain_theory.specs.Operator.{digit}
use Rattle.step_core.specs.GroupLaws.{by_groups}
use Rattle.step_core.proofs.shares.may_share.Goals as goal

pub returns : goal.returns
returns c = λ e basis. by_groups c.args.spec.now c.args.stack.now.n c.args.stack.now.steps c.args.left
    c.count-read.result (c.n.result + c.len.result) c.saturating_sub-groups.result (digit c.args.reads) c.requires.inputs
    (omega (arith, c.n.ensures.inputs, c.len.ensures.count)) c.count-read.ensures.count
    (omega (arith, c.saturating_sub-groups.ensures, c.if-groups-lt2.false)) (c.has_groups.ensures e) basis
