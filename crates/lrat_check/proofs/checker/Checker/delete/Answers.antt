use Rattle.lrat_check.proofs.Kept.{kept_removed}
use Rattle.lrat_check.proofs.checker.Checker.delete.Goals as goal

pub invariant_of-self : goal.invariant_of-self
invariant_of-self c = kept_removed c.self.inside.vars c.self.inside.clauses c.remove_all.new.clauses c.self.inside.marks c.deref-2.result.now c.self.invariant c.remove_all.ensures
