use Rattle.std.proofs.Common.{arith}
use Rattle.cdcl_core.proofs.Runs.{power_found, power_doubled}
use Rattle.cdcl_core.proofs.restarts.greatest_power.Goals as goal

pub returns : goal.returns
returns c = power_found c.args.number c.loop-power.power c.loop-power.invariant.is c.loop-power.invariant.low (omega (arith, c.loop-power-test.false))

pub loop-power-preserved : goal.loop-power-preserved
loop-power-preserved c = record {
  some = omega (arith, c.loop-power.invariant.some);
  low = omega (arith, c.loop-power-test.true);
  is = power_doubled c.loop-power.power c.loop-power.invariant.is;
}
