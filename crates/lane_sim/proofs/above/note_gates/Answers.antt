use Rattle.std.proofs.Common.{ap, map}
use Rattle.lane_sim.specs.AboveLaws.{noted}
use Rattle.lane_sim.specs.Cone.{node_of}
use Rattle.lane_sim.proofs.above.note_gates.Goals as goal

pub loop-first-preserved : goal.loop-first-preserved
loop-first-preserved c =
    noted c.args.nodes.now.keys c.loop-first.nodes.keys c.insert.new.self.keys c.in-Some.first.now.0
    (map node_of c.loop-first.left.now) (map node_of c.in-Some.rest.now) (map node_of c.args.gates.now) c.requires
    (ap (map node_of) c.in-Some.ensures.cases.0) c.loop-first.invariant c.in_ok-insert.ensures.keys
