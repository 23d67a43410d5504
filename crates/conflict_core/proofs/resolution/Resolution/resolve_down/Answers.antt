use Rattle.std.proofs.Common.{◌≡◌, ◌+◌, ◌-◌, ◌<◌, false, length, sym, ◌∙◌, arith}
use Rattle.cdcl_theory.specs.Codes.{marked_in}
use Rattle.conflict_core.specs.Markings.{NoneMarked}
use Rattle.conflict_core.proofs.Resolvents.{none_more, none_replaced, stay_replaced}
use Rattle.conflict_core.proofs.resolution.Resolution.resolve_down.Goals as goal

pub loop-trail_index-preserved-then-not-has : goal.loop-trail_index-preserved-then-not-has
loop-trail_index-preserved-then-not-has c =
    let t = c.args.trail.now in
    let marks = c.loop-trail_index.self.marks in
    let trail_index : c.loop-trail_index.trail_index - 1 + 1 ≡ c.loop-trail_index.trail_index = omega arith in
    let within : c.loop-trail_index.trail_index - 1 < length t.lits = omega arith in
    let off : marked_in marks c.opposite.result ≡ false = sym c.has.ensures ∙ c.if-not-has.true in
    let off_here = rw c.opposite.ensures.value at off in
    let none : NoneMarked t marks (c.loop-trail_index.trail_index - 1 + 1) (length t.lits) = rw trail_index c.loop-trail_index.invariant.none in
    record {
      above = omega arith;
      below = omega arith;
      resolution = c.loop-trail_index.invariant.resolution;
      none = none_more t marks (c.loop-trail_index.trail_index - 1) (length t.lits) c.at.result (sym (c.at.ensures.value c.at.result)) within off_here none;
      others = c.loop-trail_index.invariant.others;
      room = c.loop-trail_index.invariant.room;
    }

pub loop-trail_index-preserved : goal.loop-trail_index-preserved
loop-trail_index-preserved c =
    let t = c.args.trail.now in
    let marks = c.loop-trail_index.self.marks in
    let trail_index : c.loop-trail_index.trail_index - 1 + 1 ≡ c.loop-trail_index.trail_index = omega arith in
    let none : NoneMarked t marks (c.loop-trail_index.trail_index - 1 + 1) (length t.lits) = rw trail_index c.loop-trail_index.invariant.none in
    record {
      above = omega arith;
      below = omega arith;
      resolution = c.in_ok-resolve.ensures.resolution;
      none = none_replaced t (c.loop-trail_index.trail_index - 1) marks c.resolve.new.self.marks c.at.ensures.whole c.in_ok-resolve.ensures.replaced none;
      others = stay_replaced t c.args.low (c.loop-trail_index.trail_index - 1) c.args.self.now.marks marks
          c.resolve.new.self.marks (omega arith) c.loop-trail_index.invariant.others c.in_ok-resolve.ensures.replaced;
      room = c.in_ok-resolve.ensures.room ∙ c.loop-trail_index.invariant.room;
    }
