use Rattle.std.proofs.Common.{None}
use Rattle.window_theory.specs.WindowLaws.{window_belongs}
use Rattle.benchmarks.proofs.There.{gate_there}
use Rattle.benchmarks.proofs.substituting.substituted_net.Goals as goal

pub window-requires-clause-root : goal.window-requires-clause-root
window-requires-clause-root c =
    gate_there c.args.net.now c.args.root c.sources-sources.result c.gates.result.now c.sources-sources.ensures.sources c.gates.ensures.gates c.if-root-sources.false c.if-root-sources-2.false

pub replaced-requires-clause-belongs : goal.replaced-requires-clause-belongs
replaced-requires-clause-belongs c =
    window_belongs c.args.net.now c.args.root None c.args.count c.in-Some.window c.gates.ensures.net (rw c.in-Some.is at c.in_ok-window.ensures.some)
