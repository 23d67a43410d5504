use Rattle.lane_sim.specs.CheckingLaws.{gate_numbered, none_numbered}
use Rattle.lane_sim.proofs.checking.is_numbered.Goals as goal

pub returns-in-Some-gate_at-clause-yes : goal.returns-in-Some-gate_at-clause-yes
returns-in-Some-gate_at-clause-yes c t = gate_numbered c.args.leaves.now c.args.gates.now c.args.node c.in-Some-gate_at.field-0 c.in-Some-gate_at.ensures.some

pub returns-in-None-gate_at-clause-no : goal.returns-in-None-gate_at-clause-no
returns-in-None-gate_at-clause-no c f = none_numbered c.args.leaves.now c.args.gates.now c.args.node c.in-None.ensures.none c.in-None-gate_at.ensures.none
