use Rattle.std.proofs.Common.{◌∙◌}
use Rattle.clause_db.proofs.Arranging.{both_back}
use Rattle.clause_db.proofs.watches.Watches.push_both.Goals as goal

pub returns-in-Err-clause-err : goal.returns-in-Err-clause-err
returns-in-Err-clause-err c = both_back c.args.self.now c.push-2.new.self c.take_last.new.self c.index-lits-0.result
    c.index-lits-1.result c.args.id (c.in-Err.ensures.err ∙ c.in_ok-push.ensures.ok) c.take_last.ensures
