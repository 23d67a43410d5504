use Rattle.std.proofs.Common.{arith}
use Rattle.net_basis.proofs.Placements.{nodes_put}
use Rattle.net_basis.proofs.table.put.Goals as goal

pub returns-clause-put : goal.returns-clause-put
returns-clause-put c =
    rw (← c.get.ensures.word, ← c.from.ensures)
    (nodes_put _ _ _ (omega (arith, c.from.ensures, c.get.ensures.below, c.requires)))
