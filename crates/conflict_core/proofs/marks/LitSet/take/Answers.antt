use Rattle.std.proofs.Common.{sym, ◌∙◌}
use Rattle.conflict_core.proofs.Marking.{taken_passed, taken_more}
use Rattle.conflict_core.proofs.marks.LitSet.take.Goals as goal

pub loop-lit-preserved-then-not-has : goal.loop-lit-preserved-then-not-has
loop-lit-preserved-then-not-has c = record {
  room = c.loop-lit.invariant.room;
  gathered = taken_passed c.args.lits.now c.loop-lit.lit-index c.lit-item.result c.lit-item.result c.args.self.now
      c.loop-lit.self c.loop-lit.gathered.items c.loop-lit-test.true (sym c.lit-item.is) c.loop-lit.invariant.gathered
      (sym c.has.ensures ∙ c.if-not-has.true);
}

pub loop-lit-preserved : goal.loop-lit-preserved
loop-lit-preserved c = record {
  room = c.unset.ensures.room ∙ c.loop-lit.invariant.room;
  gathered = taken_more c.args.lits.now c.loop-lit.lit-index c.lit-item.result c.lit-item.result c.args.self.now
      c.loop-lit.self c.unset.new.self c.loop-lit.gathered.items c.push.new.self.items c.loop-lit-test.true
      (sym c.lit-item.is) c.loop-lit.invariant.gathered (sym c.has.ensures
      ∙ c.if-not-has.false) c.unset.ensures.set c.in_ok-push.ensures.items;
}
