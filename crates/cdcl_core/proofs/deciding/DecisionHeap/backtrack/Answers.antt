use Rattle.std.proofs.Common.{◌≡◌, ◌-◌, ◌+◌, length, arith}
use Rattle.cdcl_core.proofs.Decisions.{back_more}
use Rattle.cdcl_core.proofs.deciding.DecisionHeap.backtrack.Goals as goal

pub loop-taken-preserved : goal.loop-taken-preserved
loop-taken-preserved c =
    let short : length c.unassign_last.new.trail.lits ≡ length c.loop-taken.trail.lits - 1 = c.unassign_last.ensures.back.short in
    let before : length c.loop-taken.trail.lits + c.loop-taken._taken ≡ length c.args.trail.now.lits + c.args.len = c.loop-taken.invariant.long in
    record {
      long = omega (arith, short, before, c.loop-taken-test.true, c.len-taken-end.ensures.value);
      back = back_more (length c.loop-taken.trail.lits) c.args.trail.now c.loop-taken.trail c.unassign_last.new.trail
          c.loop-taken.invariant.back (omega (
            arith,
            before,
            c.loop-taken-test.true,
            c.len-taken-end.ensures.value,
            c.requires.low,
          )) c.unassign_last.ensures.back;
      whole = c.unassign_last.ensures.whole;
      deciding = c.unassign_last.ensures.deciding;
    }
