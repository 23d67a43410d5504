use Rattle.std.proofs.Common.{sym, ◌∙◌}
use Rattle.clause_db.proofs.Arranging.{pair_block}
use Rattle.clause_db.proofs.Databases.{pair_in, pair_differ}
use Rattle.clause_db.proofs.clause_db.ClauseDb.watched.Goals as goal

pub returns-clause-differ : goal.returns-clause-differ
returns-clause-differ c = pair_differ _ c.args.self.now c.args.id c.pair-pair.result c.self.view_is c.self.invariant.0
    (c.pair-pair.ensures ∙ sym (pair_block c.self.inside.watches c.args.id)) c.requires

pub returns-clause-of_clause : goal.returns-clause-of_clause
returns-clause-of_clause c = pair_in _ c.args.self.now c.args.id c.pair-pair.result c.self.view_is c.self.invariant.0
    (c.pair-pair.ensures ∙ sym (pair_block c.self.inside.watches c.args.id)) c.requires
