use Rattle.std.proofs.Common.{arith}
use Rattle.enc_theory.specs.Families.{chosen}
use Rattle.enc_base.specs.RoomLaws.{slot_pushed}
use Rattle.clause_core.specs.RangeLaws.{loops}
use Rattle.enc_base.proofs.families.push_pair_exists_at.Goals as goal

pub loop-slot-preserved : goal.loop-slot-preserved
unfolding chosen
loop-slot-preserved c = record {
  same = grind (arith, loops);
  within = slot_pushed c.args.list.now.vars c.args.step.now.place c.loop-slot.slot-index c.args.step.now.slots
      c.slots-slot-items.result.now _ _ c.loop-slot.raws.items c.push.new.self.items c.slots-slot-items.ensures
      c.requires.each c.loop-slot-test.true c.in_ok-push.ensures.items c.loop-slot.invariant.within;
}
