use Rattle.std.proofs.Common.{refl, arith}
use Rattle.subsume_core.proofs.Flags.{flagged_all}
use Rattle.subsume_core.proofs.units.Units.flag_all.Goals as goal

pub loop-before-preserved : goal.loop-before-preserved
loop-before-preserved c = c.flag_live.ensures c.loop-before.before refl c.loop-before.invariant

pub returns : goal.returns
returns c = flagged_all c.args.clauses.now c.loop-before.before c.loop-before.self (omega (arith, c.loop-before-test.false, c.last-before-end.ensures.value)) c.loop-before.invariant
