use Rattle.improve_windows.specs.ImprovementLaws.{attempts_resynthesizes}
use Rattle.improve_windows.proofs.passes.resynthesized.Goals as goal

pub returns : goal.returns
returns g c =
    attempts_resynthesizes c.args.settings.now c.in_ok-attempts.attempts.settings c.args.net c.in_ok-attempts.attempts.net c.resynthesize.new.attempts.net c.into_net.result
    c.in_ok-settled.field-0.settled c.in_ok-settled.field-0.undecided.items
    c.in_ok-attempts.ensures.settings c.in_ok-attempts.ensures.net c.into_net.ensures
    c.in_ok-settled.ensures.replaces c.in_ok-settled.ensures.settled c.in_ok-settled.ensures.undecided c.in_ok-settled.ensures.rising c.in_ok-settled.ensures.stopped c.in_ok-settled.ensures.rounds_changed c.in_ok-settled.ensures.none
