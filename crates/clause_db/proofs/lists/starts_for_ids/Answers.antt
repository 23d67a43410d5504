use Rattle.std.proofs.Common.{arith}
use Rattle.clause_db.specs.Lists.{placed}
use Rattle.clause_db.proofs.Entries.{mapped_all}
use Rattle.clause_db.proofs.lists.starts_for_ids.Goals as goal

pub returns : goal.returns
returns c = mapped_all (placed c.args.arena.now.starts) c.args.entries.now c.loop-index.entries c.loop-index.index
    c.loop-index.invariant (omega (
      arith,
      c.loop-index-test.false,
      c.loop-index.auto.entries,
      c.loop-index.invariant.long,
    ))
