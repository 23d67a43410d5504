use Rattle.std.proofs.lemmas.Result.{IfOk-weaker}
use Rattle.tt_core.specs.Words.{Words, specification}
use Rattle.observe_theory.specs.Observed.{IsObservedOf}
use Rattle.observe_core.specs.Observing.{IsMasked}
use Rattle.observe_core.specs.NarrowingLaws.{observed_is}
use Rattle.observe_core.proofs.relaxing.observed_spec_by.Goals as goal

pub returns : goal.returns
returns c =
    let seen = c.in_ok-seen.ensures in
    IfOk-weaker c.relaxed.result (IsMasked c.in_ok-seen.seen c.in_ok-whole.whole) (λ (s : Words). IsObservedOf c.args.net.now c.args.window.now (specification s))
    (λ s is. observed_is c.args.net.now c.args.window.now seen.0 c.in_ok-seen.seen c.in_ok-whole.whole s c.in_ok-whole.ensures seen.1 seen.2 is)
    c.relaxed.ensures
