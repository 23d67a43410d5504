use Rattle.std.proofs.Common.{map}
use Rattle.clause_db.specs.Lists.{placed}
use Rattle.clause_db.proofs.Entries.{IsMapped}
use Rattle.clause_db.proofs.watches.all_starts_for_ids.Given as goal

abbrev pub invariant-loop-index : goal.invariant-loop-index
invariant-loop-index l = IsMapped (map (placed l.arena.starts)) l.initial.lists l.lists l.index
