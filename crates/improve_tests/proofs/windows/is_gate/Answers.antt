use Rattle.std.proofs.Common.{arith}
use Rattle.std.proofs.lemmas.Bool.{ltb-true}
use Rattle.window_theory.specs.WindowLaws.{gate_at}
use Rattle.improve_tests.proofs.windows.is_gate.Goals as goal

pub returns-then-sources-node : goal.returns-then-sources-node
returns-then-sources-node c = λ e.
    gate_at c.args.net.now c.args.node (omega (arith, c.sources.ensures.sources, c.if-sources-node.true)) (omega (arith, ltb-true c.args.node c.end_of.result e, c.end_of.ensures))
