use Rattle.std.specs.Prelude.{◌≡◌}
use Rattle.std.proofs.Common.{arith}
use Rattle.improve_windows.specs.ImprovementLaws.{leaves_idle, leaves_resynthesized, cleaned_up_itself}
use Rattle.improve_windows.proofs.passes.improve_net.Goals as goal

pub improved-requires-clause-cap : goal.improved-requires-clause-cap
improved-requires-clause-cap g c = omega (arith, c.if-settings-eq0.false)

pub improved-requires-clause-itself : goal.improved-requires-clause-itself
improved-requires-clause-itself g c = cleaned_up_itself c.args.net.now c.in_ok-tidy.tidy c.in_ok-tidy.ensures.cleaned_up

pub returns : goal.returns
returns g c =
    leaves_resynthesized c.args.settings c.args.net.now c.in_ok-tidy.tidy c.in_ok-left.left.net c.in_ok-left.left.settled c.in_ok-left.left.undecided.items
    c.gates-gates.ensures.net (omega (arith, c.if-settings-eq0.false)) c.in_ok-tidy.ensures.exact c.in_ok-left.ensures

pub returns-then-settings-eq0 : goal.returns-then-settings-eq0
returns-then-settings-eq0 g c =
    let none : c.args.settings.cap ≡ 0 = omega (arith, c.if-settings-eq0.true) in
    leaves_idle c.args.settings c.args.net.now c.in_ok-tidy.tidy c.new.result.items c.gates-gates.ensures.net none c.in_ok-tidy.ensures.exact c.new.ensures.items
