use Rattle.std.proofs.Common.{None}
use Rattle.window_theory.specs.WindowLaws.{window_belongs}
use Rattle.improve_tests.proofs.windows.alone.Goals as goal

pub returns : goal.returns
returns c =
    window_belongs c.args.net.now c.args.root None c.args.count c.in-Some.window c.sources-sources.ensures.net (rw c.in-Some.is at c.in_ok-window.ensures.some)
