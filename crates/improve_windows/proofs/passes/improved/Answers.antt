use Rattle.op_basis.specs.Basis.{members}
use Rattle.improve_theory.specs.LeadingLaws.{replaces_on}
use Rattle.improve_windows.specs.ImprovementLaws.{resynthesizes_on, resynthesizes_again}
use Rattle.improve_windows.proofs.passes.improved.Goals as goal

pub loop-effort-init : goal.loop-effort-init
loop-effort-init g c =
    resynthesizes_on c.args.settings.now c.args.net c.in_ok-best.best c.in_ok-left.left.net c.in_ok-left.left.settled c.in_ok-left.left.undecided.items c.requires.itself
    (replaces_on (members c.args.settings.now.basis) c.args.net c.in_ok-net.net c.in_ok-best.best
    (c.in_ok-net.ensures.replaces (members c.args.settings.now.basis)) c.in_ok-best.ensures) c.in_ok-left.ensures

pub loop-effort-preserved : goal.loop-effort-preserved
loop-effort-preserved g c =
    resynthesizes_again c.args.settings.now c.args.net c.loop-effort.left.net c.in-Some.smaller c.in_ok-left-in-Some.left.net
    c.loop-effort.left.settled c.in_ok-left-in-Some.left.settled c.loop-effort.left.undecided.items c.in_ok-left-in-Some.left.undecided.items
    c.requires.itself c.loop-effort.invariant (rw c.in-Some.is at c.in_ok-moved.ensures) c.in_ok-left-in-Some.ensures
