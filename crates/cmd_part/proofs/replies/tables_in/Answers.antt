-- Why there are no tables.
use Rattle.cmd_part.proofs.replies.tables_in.Goals as goal

pub returns-in-Err-clause-stop : goal.returns-in-Err-clause-stop
returns-in-Err-clause-stop c = c.stop_of.ensures c.args.part c.args.bytes.now c.requires c.in-Err.ensures.exact
