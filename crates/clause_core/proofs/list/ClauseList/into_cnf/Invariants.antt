use Rattle.std.proofs.Common.{◌≡◌, ◌++◌, ◌+◌, ◌<◌, length, All}
use Rattle.std.specs.Vec.Iter.{into_iter_items, into_iter_len}
use Rattle.sat_theory.specs.Formula.{IsWithin}
use Rattle.clause_core.proofs.list.ClauseList.into_cnf.Given as goal

abbrev pub invariant-loop-clause : goal.invariant-loop-clause
invariant-loop-clause l = record {
  next : (goal.iterator-loop-clause).can_next l.clause-iterator;
  finite : (goal.iterator-loop-clause).is_finite l.clause-iterator;
  vars : l.cnf.vars ≡ l.fn.self.vars;
  same : l.cnf.clauses ++ into_iter_items l.clause-iterator ≡ l.fn.self.clauses;
  left : into_iter_len l.clause-iterator ≡ length (into_iter_items l.clause-iterator);
  within : All (IsWithin l.fn.self.vars) (into_iter_items l.clause-iterator);
  few : length l.cnf.clauses + length (into_iter_items l.clause-iterator) < 2000000000;
}
