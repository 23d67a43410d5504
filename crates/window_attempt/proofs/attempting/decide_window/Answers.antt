-- The header's question is decided, and never stays open where it asks for at most four steps.
use Rattle.std.specs.Prelude.{◌≡◌, ℕ, ◌+◌, ◌-◌, List, length}
use Rattle.std.proofs.Common.{arith, ◌∙◌, ap}
use Rattle.window_attempt.specs.AttemptingLaws.{decided_by}
use Rattle.window_attempt.proofs.attempting.decide_window.Goals as goal

pub returns-clause-decided : goal.returns-clause-decided
returns-clause-decided g c =
    let steps : (length c.args.window.now.gates - 1) + 1 ≡ length c.args.window.now.gates = omega (arith, c.gates.ensures.whole.some_gates) in
    let size : (length c.gates.result.now - 1) + 1 ≡ length c.args.window.now.gates = ap (λ (gates : List ℕ). (length gates - 1) + 1) c.gates.ensures.value ∙ steps in
    decided_by c.args.settings c.args.net.now c.args.window.now c.in_ok-spec.spec _ c.in_ok-decided.decided c.in_ok-spec.ensures size c.in_ok-decided.ensures.decided c.in_ok-decided.ensures.closed
