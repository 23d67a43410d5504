use Rattle.std.proofs.Common.{◌∙◌}
use Rattle.net_theory.specs.Net.{bit_of, value, end_of}
use Rattle.equiv_core.specs.SinkLaws.{signals_same}
use Rattle.equiv_values.proofs.simulating.sink_bits.Goals as goal

pub returns : goal.returns
returns c =
    (rw (c.deref.ensures.value, c.sinks.ensures.sinks) at c.in_ok-bits.ensures)
    ∙ signals_same (bit_of c.in_ok-nodes.nodes.items) (value c.args.net.now (bit_of c.args.sources.now))
    c.args.net.now.sinks (end_of c.args.net.now) c.sinks.ensures.net.sinks c.in_ok-nodes.ensures.values
