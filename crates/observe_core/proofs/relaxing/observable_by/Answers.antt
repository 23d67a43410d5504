use Rattle.std.proofs.Common.{ℕ}
use Rattle.std.proofs.lemmas.Result.{IfOk-weaker}
use Rattle.observe_theory.specs.FanoutCone.{FanoutCone, IsFanoutCone}
use Rattle.observe_core.specs.Observing.{IsObservableMask}
use Rattle.observe_core.proofs.relaxing.observable_by.Goals as goal

pub returns : goal.returns
returns c =
    IfOk-weaker c.observable_rows.result (IsObservableMask c.args.net.now c.args.window.now c.in_ok-fanout_cone.fanout_cone)
    (λ (seen : ℕ). (fanout_cone : FanoutCone) × IsFanoutCone c.args.net.now c.args.window.now fanout_cone × IsObservableMask c.args.net.now c.args.window.now fanout_cone seen)
    (λ seen is. (c.in_ok-fanout_cone.fanout_cone, c.in_ok-fanout_cone.ensures, is))
    c.observable_rows.ensures
