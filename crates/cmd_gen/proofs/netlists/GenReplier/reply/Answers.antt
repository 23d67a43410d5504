use Rattle.cmd_gen.proofs.netlists.GenReplier.reply.Goals as goal

pub returns-in-Write : goal.returns-in-Write
returns-in-Write g c = rw c.in-Write.is (c.written.ensures c.args.bytes.now)

pub returns-in-Improve : goal.returns-in-Improve
returns-in-Improve g c = rw c.in-Improve.is (c.improved.ensures c.args.bytes.now)
