use Rattle.window_theory.specs.WindowLaws.{window_belongs}
use Rattle.benchmarks.proofs.counting.count_windows.Goals as goal

pub spec_of-requires : goal.spec_of-requires
spec_of-requires c =
    window_belongs c.args.net.now c.args.root c.args.partner c.loop-size.size c.in-Some.window c.sources-sources.ensures.net (rw c.in-Some.is at c.in_ok-window.ensures.some)
