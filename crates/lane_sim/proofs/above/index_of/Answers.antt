use Rattle.std.proofs.Common.{◌++◌, ℕ, List, map, sym, subst}
use Rattle.lane_sim.specs.Cone.{AreApart, node_of}
use Rattle.lane_sim.specs.LaneLaws.{prefix_apart}
use Rattle.lane_sim.proofs.above.index_of.Goals as goal

pub note-requires : goal.note-requires
note-requires c =
    subst (λ (ks : List ℕ). AreApart (ks ++ c.leaves.result.now)) (sym c.in_ok-nodes.ensures.empty)
    (subst AreApart (sym c.leaves.ensures.value) (prefix_apart c.args.cone.now.leaves (map node_of c.args.cone.now.gates) c.leaves.ensures.whole.apart))
