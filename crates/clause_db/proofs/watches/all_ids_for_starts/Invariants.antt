use Rattle.std.proofs.Common.{map}
use Rattle.clause_db.specs.Lists.{named}
use Rattle.clause_db.proofs.Entries.{IsMapped}
use Rattle.clause_db.proofs.watches.all_ids_for_starts.Given as goal

abbrev pub invariant-loop-index : goal.invariant-loop-index
invariant-loop-index l = IsMapped (map (named l.arena.starts)) l.initial.lists l.lists l.index
