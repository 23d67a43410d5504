use Rattle.std.proofs.Common.{arith, map}
use Rattle.clause_db.specs.Lists.{placed}
use Rattle.clause_db.proofs.Entries.{mapped_all}
use Rattle.clause_db.proofs.watches.all_starts_for_ids.Goals as goal

pub returns : goal.returns
returns c = mapped_all (map (placed c.args.arena.now.starts)) c.args.lists.now c.loop-index.lists c.loop-index.index
    c.loop-index.invariant (omega (
      arith,
      c.loop-index-test.false,
      c.loop-index.auto.lists,
      c.loop-index.invariant.long,
    ))
