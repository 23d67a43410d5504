use Rattle.clause_db.specs.Lists.{named}
use Rattle.clause_db.proofs.Entries.{IsMapped}
use Rattle.clause_db.proofs.lists.ids_for_starts.Given as goal

abbrev pub invariant-loop-index : goal.invariant-loop-index
invariant-loop-index l = IsMapped (named l.arena.starts) l.initial.entries l.entries l.index
