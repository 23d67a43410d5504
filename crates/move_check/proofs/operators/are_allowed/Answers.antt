use Rattle.op_basis.specs.Basis.{members}
use Rattle.move_check.specs.JudgingLaws.{allowed_more}
use Rattle.move_check.proofs.operators.are_allowed.Goals as goal

pub loop-gate-preserved : goal.loop-gate-preserved
loop-gate-preserved c = λ rest. c.loop-gate.invariant
    (allowed_more (members c.args.basis) c.args.net.now c.in-Some.gate.now c.in-Some.rest.now c.loop-gate.left.now
    c.in-Some.ensures.cases.0 (c.is_allowed.ensures c.if-not-is_allowed.false) rest)
