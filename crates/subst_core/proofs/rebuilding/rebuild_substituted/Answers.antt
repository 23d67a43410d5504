use Rattle.subst_core.proofs.Marking.{none_marked}
use Rattle.subst_core.proofs.rebuilding.rebuild_substituted.Goals as goal

pub rebuild_in-requires-clause-marks : goal.rebuild_in-requires-clause-marks
rebuild_in-requires-clause-marks c =
    rw (c.deref_mut.ensures.value, c.in_ok-marks.ensures.items_if_clones_equal (λ y e. e)) (none_marked _)
