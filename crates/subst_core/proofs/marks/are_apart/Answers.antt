use Rattle.subst_core.proofs.Marking.{none_marked}
use Rattle.subst_core.proofs.marks.are_apart.Goals as goal

pub are_apart_by-requires-clause-none : goal.are_apart_by-requires-clause-none
are_apart_by-requires-clause-none c =
    rw (c.deref_mut.ensures.value, c.in_ok-marks.ensures.items_if_clones_equal (λ y e. e)) (none_marked _)
