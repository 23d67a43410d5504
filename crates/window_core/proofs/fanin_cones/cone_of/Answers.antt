use Rattle.std.proofs.Common.{ℕ, List, sym, subst}
use Rattle.std.specs.Prelude.{reverse}
use Rattle.net_theory.specs.declared.data.Gate.{Gate}
use Rattle.lane_sim.specs.Cone.{IsCone}
use Rattle.window_core.specs.ConeLaws.{above_cone}
use Rattle.window_core.proofs.fanin_cones.cone_of.Goals as goal

pub new-requires : goal.new-requires
new-requires c =
    subst (λ (gs : List (ℕ × Gate)). IsCone (record { leaves = c.args.leaves.items; gates = gs })) (sym c.reverse.ensures.items)
    (above_cone c.args.net.now c.args.leaves.items (reverse c.args.gates.items) c.sources-sources.ensures.net c.requires)
