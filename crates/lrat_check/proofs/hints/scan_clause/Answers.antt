use Rattle.std.proofs.Common.{sym}
use Rattle.lrat_check.specs.LiteralMarks.{marked}
use Rattle.lrat_check.proofs.Scanning.{many_outside}
use Rattle.lrat_check.proofs.hints.scan_clause.Goals as goal

pub returns-then-is_some : goal.returns-then-is_some
returns-then-is_some c = many_outside (marked c.args.marks.now) c.args.clause.now c.loop-lit.lit-index c.loop-lit.found
    c.lit-item.result (sym c.if-is_some.ensures) c.loop-lit.invariant.same c.loop-lit-test.true c.lit-item.is
    (sym c.if-has.ensures)
