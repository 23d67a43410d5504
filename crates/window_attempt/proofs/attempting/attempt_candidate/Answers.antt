use Rattle.std.specs.Prelude.{Option, IfSome}
use Rattle.std.proofs.Common.{subst}
use Rattle.window_theory.specs.Window.{Window, IsWindow}
use Rattle.window_attempt.specs.AttemptingLaws.{candidate_belongs}
use Rattle.window_attempt.proofs.attempting.attempt_candidate.Goals as goal

pub attempt_window-requires-clause-belongs : goal.attempt_window-requires-clause-belongs
attempt_window-requires-clause-belongs g c =
    candidate_belongs c.args.net.now c.args.candidate.root c.args.candidate.partner c.args.candidate.count c.in-Some.window c.gates-gates.ensures.net
    (subst (λ (answer : Option Window). IfSome answer
    (λ w. IsWindow c.args.net.now c.args.candidate.root c.args.candidate.partner c.args.candidate.count w))
    c.in-Some.is c.in_ok-window_by.ensures.some)
