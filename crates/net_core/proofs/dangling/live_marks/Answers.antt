use Rattle.net_core.proofs.DanglingGates.{set_of-none}
use Rattle.net_core.proofs.dangling.live_marks.Goals as goal

pub mark_live-requires-clause-none : goal.mark_live-requires-clause-none
mark_live-requires-clause-none c =
    rw (c.deref_mut.ensures.value, c.in_ok-marks.ensures.items_if_clones_equal (λ y e. e)) (set_of-none _)
