use Rattle.std.proofs.Common.{arith}
use Rattle.lrat_check.proofs.Filled.{none_filled, filled_more, filled_all}
use Rattle.lrat_check.proofs.slots.Among.of.Goals as goal

pub loop-lit-init : goal.loop-lit-init
loop-lit-init c = none_filled

pub loop-lit-preserved : goal.loop-lit-preserved
loop-lit-preserved c = filled_more c.loop-lit.slots c.put.new.slots c.args.lits.now c.loop-lit.lit-index c.lit-item.result c.loop-lit-test.true c.lit-item.is c.loop-lit.invariant c.put.ensures

pub returns-clause-slots : goal.returns-clause-slots
returns-clause-slots c = filled_all c.loop-lit.slots c.args.lits.now c.loop-lit.lit-index (omega (arith, c.loop-lit-test.false)) c.loop-lit.invariant
