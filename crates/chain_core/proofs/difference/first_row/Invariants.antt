use Rattle.tt_core.specs.Words.{specification}
use Rattle.chain_core.specs.Rows.{AreMetBelow}
use Rattle.chain_core.proofs.difference.first_row.Given as goal

abbrev pub invariant-loop-t : goal.invariant-loop-t
invariant-loop-t l = AreMetBelow l.chain (specification l.spec) l.h l.t
