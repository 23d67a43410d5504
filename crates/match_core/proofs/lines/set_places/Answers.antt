use Rattle.std.proofs.Common.{length, drop, refl}
use Rattle.indexmap.specs.IndexMap.{get}
use Rattle.net_theory.specs.Document.{is_same}
use Rattle.match_core.proofs.Places.{cut_last, place_step}
use Rattle.match_core.proofs.lines.set_places.Goals as goal

pub loop-line-preserved : goal.loop-line-preserved
loop-line-preserved c = record {
  found =
      place_step c.args.lines.now c.loop-line.left.now c.in-Some.rest.now c.in-Some.line.now
      (length c.in-Some.rest.now) (get is_same c.loop-line.places)
      (get is_same c.set_place.new.places) c.in-Some.ensures.cases.0 c.loop-line.invariant.whole
      c.loop-line.invariant.found refl
      c.in_ok-set_place.ensures;
  whole = (cut_last c.args.lines.now c.loop-line.left.now c.in-Some.rest.now c.in-Some.line.now
      (drop (length c.loop-line.left.now) c.args.lines.now) c.in-Some.ensures.cases.0
      c.loop-line.invariant.whole).whole;
}
