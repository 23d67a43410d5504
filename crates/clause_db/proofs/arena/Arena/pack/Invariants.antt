use Rattle.std.proofs.Common.{◌≡◌}
use Rattle.clause_db.specs.ArenaRanges.{end_before}
use Rattle.clause_db.proofs.arena.Arena.pack.Given as goal

abbrev pub invariant-loop-index : goal.invariant-loop-index
invariant-loop-index l = record {
  lists : l.self.lists ≡ l.initial.self.lists;
  end : l.end ≡ end_before l.self l.index;
}
