use Rattle.std.proofs.Common.{◌+◌, length, ap, arith}
use Rattle.net_theory.specs.declared.data.Gate.{Gate}
use Rattle.window_theory.specs.WindowLaws.{gate_at}
use Rattle.benchmarks.proofs.counting.count_all.Goals as goal

pub count_root-requires-clause-root : goal.count_root-requires-clause-root
count_root-requires-clause-root c =
    gate_at c.args.net.now (c.sources-first.result + 1 + c.loop-i.i)
    (omega (arith, c.sources-first.ensures.sources))
    (omega (arith, ap (length {A = Gate}) c.gates-i-end.ensures.gates, c.sources-first.ensures.sources, c.loop-i-test.true))
