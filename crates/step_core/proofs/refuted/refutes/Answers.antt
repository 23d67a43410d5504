-- The live outputs have chains of the same sizes as all outputs.
use Rattle.op_basis.specs.Basis.{members}
use Rattle.step_core.specs.RefutedLaws.{size_refuted}
use Rattle.step_core.proofs.refuted.refutes.Goals as goal

pub returns : goal.returns
returns c = λ e fewer. size_refuted c.args.spec.now c.in_ok-live.live (members c.args.basis) c.args.steps
    c.in_ok-live.ensures.words c.n-inputs.ensures.whole (c.in_ok-refuted.ensures e) fewer
