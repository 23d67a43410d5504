use Rattle.lrat_check.proofs.SeenIds.{seen_in-insert, seen_in-again}
use Rattle.lrat_check.proofs.judging.comes_again.Goals as goal

pub returns-clause-again : goal.returns-clause-again
returns-clause-again c = seen_in-again c.args.seen.now c.args.id c.in_ok-insert.field-0 c.in_ok-insert.ensures.added

pub returns-clause-seen : goal.returns-clause-seen
returns-clause-seen c = seen_in-insert c.args.seen.now c.insert.new.self c.args.id c.in_ok-insert.ensures.updates.0
