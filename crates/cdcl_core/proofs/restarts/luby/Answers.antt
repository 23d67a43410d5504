use Rattle.std.proofs.Common.{arith}
use Rattle.cdcl_core.proofs.Runs.{luby_last, luby_again}
use Rattle.cdcl_core.proofs.restarts.luby.Goals as goal

pub returns : goal.returns
returns c = c.loop-rest.invariant.back c.loop-rest.power (luby_last c.loop-rest.rest c.loop-rest.power c.loop-rest.invariant.power (omega (arith, c.loop-rest-test.false)))

pub loop-rest-preserved : goal.loop-rest-preserved
loop-rest-preserved c =
    let power = c.loop-rest.invariant.power in
    record {
      some = omega (arith, power.low);
      small = omega (arith, c.loop-rest.invariant.small, power.high);
      power = c.greatest_power-power-in-loop-rest.ensures;
      back = λ member before. c.loop-rest.invariant.back member (luby_again c.loop-rest.rest c.loop-rest.power member power (omega (arith, c.loop-rest-test.true)) before);
    }
