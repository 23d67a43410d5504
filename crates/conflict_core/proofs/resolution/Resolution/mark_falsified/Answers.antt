use Rattle.std.proofs.Common.{◌∙◌, sym}
use Rattle.cdcl_theory.specs.Trails.{falsified_at}
use Rattle.conflict_core.proofs.Gathering.{marked_more}
use Rattle.conflict_core.proofs.resolution.Resolution.mark_falsified.Goals as goal

pub loop-lit-preserved : goal.loop-lit-preserved
loop-lit-preserved c = record {
  marked = marked_more (falsified_at c.args.trail.now) c.args.lits.now c.loop-lit.lit-index c.lit-item.result
      c.lit-item.result c.args.self.now.marks c.loop-lit.self.marks c.mark.new.self.marks c.loop-lit-test.true
      (sym c.lit-item.is) c.loop-lit.invariant.marked c.in_ok-mark.ensures.marked;
  listed = c.in_ok-mark.ensures.listed;
  hints = c.in_ok-mark.ensures.hints ∙ c.loop-lit.invariant.hints;
  room = c.in_ok-mark.ensures.room ∙ c.loop-lit.invariant.room;
}
