use Rattle.std.proofs.Common.{◌∙◌, sym}
use Rattle.op_basis.specs.Basis.{members}
use Rattle.net_basis.proofs.Conversions.{in_more}
use Rattle.net_basis.proofs.converting.are_in.Goals as goal

pub loop-gate-preserved : goal.loop-gate-preserved
loop-gate-preserved c =
    in_more (members c.args.basis) c.loop-gate.left.now c.in-Some.rest.now c.in-Some.gate.now c.in-Some.ensures.cases.0
    (sym c.contains.ensures ∙ c.if-not-contains.false) ∙ c.loop-gate.invariant
