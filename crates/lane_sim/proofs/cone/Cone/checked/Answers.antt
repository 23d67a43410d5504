use Rattle.std.proofs.Common.{refl, sym, subst}
use Rattle.lane_sim.specs.Checking.{AreDistinctLeaves}
use Rattle.lane_sim.specs.CheckingLaws.{cone_new}
use Rattle.lane_sim.proofs.cone.Cone.checked.Goals as goal

pub returns-then-not-are_new-clause-none : goal.returns-then-not-are_new-clause-none
returns-then-not-are_new-clause-none c cone = c.if-not-are_new.ensures.no refl (subst AreDistinctLeaves (sym c.deref.ensures.value) (cone_new c.args.leaves.items c.args.gates.items cone))
