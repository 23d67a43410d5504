use Rattle.op_basis.specs.Basis.{members}
use Rattle.move_check.specs.Fitting.{IsFit}
use Rattle.move_check.specs.JudgingLaws.{comparable_nets, judged_is, judged_lean, judged_operators}
use Rattle.move_check.proofs.judging.judged.Goals as goal

pub equal_nets-requires-clause-comparable : goal.equal_nets-requires-clause-comparable
equal_nets-requires-clause-comparable g c = comparable_nets c.args.net.now c.in_ok-judged.judged c.gates-gates.ensures.net c.sinks-sinks.ensures.net c.in_ok-judged.ensures.sinks

pub returns-clause-cleaned_up : goal.returns-clause-cleaned_up
returns-clause-cleaned_up g c =
    let fit : IsFit (members c.args.basis) c.args.net.now c.in_ok-lean.lean = c.is_fit.ensures c.if-not-is_fit.false in
    judged_is (members c.args.basis) c.args.net.now c.in_ok-lean.lean c.in_ok-judged.judged
    c.in_ok-remove_dangling.field-0 fit c.sinks-sinks.ensures.net c.in_ok-judged.ensures.gates
    c.in_ok-judged.ensures.sinks (c.in_ok-same.ensures.same c.if-not-same.false)
    c.in_ok-remove_dangling.ensures.cleaned_up

pub returns-clause-lean : goal.returns-clause-lean
returns-clause-lean g c = judged_lean c.args.candidate.now c.in_ok-lean.lean c.in_ok-judged.judged
    c.in_ok-remove_dangling.field-0 c.in_ok-lean.ensures.cleaned_up c.in_ok-judged.ensures.gates
    c.in_ok-remove_dangling.ensures.cleaned_up

pub returns-clause-operators : goal.returns-clause-operators
returns-clause-operators g c =
    let fit : IsFit (members c.args.basis) c.args.net.now c.in_ok-lean.lean = c.is_fit.ensures c.if-not-is_fit.false in
    judged_operators (members c.args.basis) c.args.net.now c.in_ok-lean.lean c.in_ok-judged.judged
    c.in_ok-remove_dangling.field-0 c.sinks-sinks.ensures.net fit.operators c.in_ok-judged.ensures.gates
    c.in_ok-remove_dangling.ensures.exact
