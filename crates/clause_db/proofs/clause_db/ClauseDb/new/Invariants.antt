use Rattle.std.proofs.Common.{◌≡◌, take, length}
use Rattle.clause_db.specs.Stored.{IsStored, none_stored, all_added}
use Rattle.clause_db.proofs.clause_db.ClauseDb.new.Given as goal

abbrev pub invariant-loop-clause : goal.invariant-loop-clause
invariant-loop-clause l = record {
  clauses : l.clauses ≡ all_added (none_stored l.cnf.vars) (take l.clause-index l.cnf.clauses);
  vars : l.clauses.vars ≡ l.cnf.vars;
  whole : IsStored l.clauses;
  count : length l.clauses.clauses ≡ l.clause-index;
}
