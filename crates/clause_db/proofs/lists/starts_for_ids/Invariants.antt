use Rattle.clause_db.specs.Lists.{placed}
use Rattle.clause_db.proofs.Entries.{IsMapped}
use Rattle.clause_db.proofs.lists.starts_for_ids.Given as goal

abbrev pub invariant-loop-index : goal.invariant-loop-index
invariant-loop-index l = IsMapped (placed l.arena.starts) l.initial.entries l.entries l.index
