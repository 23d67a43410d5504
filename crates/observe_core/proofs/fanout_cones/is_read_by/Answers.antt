use Rattle.observe_core.specs.KeptLaws.{read_here}
use Rattle.observe_core.proofs.fanout_cones.is_read_by.Goals as goal

pub returns-then-reads-clause-yes : goal.returns-then-reads-clause-yes
returns-then-reads-clause-yes c = λ e.
    read_here c.args.net.now c.args.gates.now c.loop-gate.left.now c.in-Some.gate.now c.in-Some.rest.now c.args.node
    c.gate_at.result.now c.in-Some.ensures.cases.0 c.gate_at.ensures.gate
    (c.reads.ensures.yes c.if-reads.true) c.loop-gate.invariant
