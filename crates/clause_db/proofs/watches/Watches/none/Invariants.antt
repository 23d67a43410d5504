use Rattle.std.proofs.Common.{◌≡◌, replicate}
use Rattle.clause_db.specs.Lists.{no_entries}
use Rattle.clause_db.proofs.watches.Watches.none.Given as goal

abbrev pub invariant-loop-code : goal.invariant-loop-code
invariant-loop-code l = l.lists.items ≡ replicate l.code no_entries
