use Rattle.std.proofs.Common.{sym, ◌∙◌, arith}
use Rattle.step_core.specs.WaitLaws.{some_reads}
use Rattle.step_core.proofs.waits.is_read.Goals as goal

pub returns-then-reads_at : goal.returns-then-reads_at
returns-then-reads_at c = sym (some_reads c.args.stack.now.steps c.args.place c.loop-index.index
    (sym c.reads_at.ensures ∙ c.if-reads_at.true)
    (omega (arith, c.loop-index-test.true, c.len-index-end.ensures.count)))
