use Rattle.std.proofs.Common.{◌≡◌, length}
use Rattle.std.specs.List.{filter_map}
use Rattle.net_theory.specs.Naming.{control_of, each_once}
use Rattle.net_core.proofs.naming.take_controls.Given as goal

abbrev pub invariant-loop-latch : goal.invariant-loop-latch
invariant-loop-latch l = each_once l.taken.keys (filter_map control_of l.left) ≡ each_once l.initial.taken.keys (filter_map control_of l.latches)

abbrev pub decreases-loop-latch : goal.decreases-loop-latch
decreases-loop-latch l = length l.left
