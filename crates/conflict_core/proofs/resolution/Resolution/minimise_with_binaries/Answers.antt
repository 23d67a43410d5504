use Rattle.std.proofs.Common.{◌≡◌, ◌<◌, ◌∙◌, ℕ, ℤ, List, [], ◌∷◌, ◌++◌, true, length, slice_index_or, ap, sym, subst, refl}
use Rattle.sat_theory.specs.Formula.{opposite}
use Rattle.cdcl_theory.specs.Codes.{marked_in}
use Rattle.clause_db.specs.declared.lists.Watch.{Watch}
use Rattle.clause_db.specs.Watching.{list_of}
use Rattle.clause_db.specs.Stored.{Stored, live_in}
use Rattle.clause_db.specs.Blockers.{IsLiteralOf}
use Rattle.conflict_core.proofs.Shortening.{IsTwo, two_at, first_stays, fewer_unmarked, resolution_shortened}
use Rattle.conflict_core.proofs.resolution.Resolution.minimise_with_binaries.Goals as goal

pub loop-index-preserved : goal.loop-index-preserved
loop-index-preserved c =
    let s : Stored = c.args.clauses.now in
    let index : ℕ = c.loop-index.index in
    let first : ℤ = c.args.first in
    let watches : List Watch = c.watching-watches.result.now in
    let other : ℤ = (slice_index_or watches index c.index-watches-index.result).blocker in
    let marks = c.loop-index.self.marks in
    let hints = c.loop-index.self.hints.items in
    let id : ℕ = slice_index_or (list_of s.watches first) index 0 in
    let inside : index < length (list_of s.watches first) = subst (λ (n : ℕ). index < n) c.watching-watches.ensures.long c.loop-index-test.true in
    let of : IsLiteralOf s id other = c.watching-watches.ensures.beside index c.index-watches-index.result c.loop-index-test.true in
    let two : IsTwo (live_in s) id first other =
    two_at s first other index id c.arranged_at-lits.result.now c.watching-watches.ensures.whole inside refl of
    c.arranged_at-lits.ensures.same c.if-count-ne2.false in
    let on : marked_in marks (opposite other) ≡ true = ap (marked_in marks) (sym c.opposite-lit.ensures.value) ∙ sym c.has-in-loop-index.ensures ∙ c.if-not-has-2.false in
    let off = rw c.opposite-lit.ensures.value at c.unset.ensures.set in
    record {
      room = c.unset.ensures.room ∙ c.loop-index.invariant.room;
      kept = first_stays (live_in s) id first other marks c.unset.new.self two c.loop-index.invariant.kept off;
      resolution = λ t trail before. resolution_shortened (live_in s) t id first other marks c.unset.new.self
          c.loop-index.self.touched.items hints c.push.new.self.items trail two c.loop-index.invariant.kept on off
          c.unset.ensures.room (c.in_ok-push.ensures.items ∙ ap (λ (n : ℕ). hints ++ n ∷ []) (sym c.id_at.ensures.value))
          (c.loop-index.invariant.resolution t trail before);
      fewer = fewer_unmarked (opposite other) c.args.self.now.marks marks c.unset.new.self c.loop-index.invariant.fewer off;
    }
