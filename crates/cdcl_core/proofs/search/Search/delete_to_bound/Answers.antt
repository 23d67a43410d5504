use Rattle.std.proofs.Common.{◌∙◌, ℕ, ◌+◌, ◌<◌, ◌≤◌, List, length, ap, subst, sym, arith}
use Rattle.clause_db.specs.DeletingLaws.{some_live}
use Rattle.clause_db.specs.Stored.{live_in}
use Rattle.clause_db.specs.StoredLaws.{live_inside}
use Rattle.cdcl_core.specs.declared.search.Search.{Search}
use Rattle.cdcl_core.specs.Searching.{IsSearching, HasWatchInvariant}
use Rattle.cdcl_core.specs.Reduction.{with_deletion, MayDelete, HasDeletedOne}
use Rattle.cdcl_core.proofs.DeletingOne.{searching_lost, visited_lost, reduced_lost, covered_lost}
use Rattle.cdcl_core.proofs.DeletingToBound.{stay_lost, bounded_written}
use Rattle.cdcl_core.proofs.Writing.{searching_written, visited_written, reduced_written, logged_written}
use Rattle.cdcl_core.proofs.search.Search.delete_to_bound.Goals as goal

pub loop-index-preserved : goal.loop-index-preserved
loop-index-preserved c =
    let s : Search = c.loop-index.self in
    let id : ℕ = c.loop-index.index + 1 in
    let may : MayDelete s id = c.may_delete.ensures.may c.if-not-may_delete.false in
    let lost : HasDeletedOne id s c.delete_one.new.self = c.in_ok-delete_one.ensures.lost in
    let live = some_live (live_in s.clauses id) may.is_live in
    let inside : (0 < id) × (id ≤ length s.clauses.clauses) = live_inside s.clauses id live.0 live.1 in
    record {
      searching = subst (λ (x : Search). IsSearching x) (sym lost.rest)
          (searching_lost s c.delete_one.new.self.clauses id (s.deleted + 1) live.0 c.loop-index.invariant.searching
          c.in_ok-delete_one.ensures.stored live.1 lost.deleted may.reason);
      visited = subst (λ (x : Search). HasWatchInvariant x) (sym lost.rest) (visited_lost s c.delete_one.new.self.clauses id (s.deleted + 1) inside.0 c.loop-index.invariant.visited lost.deleted);
      reduced = reduced_lost c.args.self.now s c.delete_one.new.self id inside.0 c.loop-index.invariant.reduced lost;
      lines = ap (λ (x : Search). x.lines) lost.rest ∙ c.loop-index.invariant.lines;
      pending = λ f logged. c.in_ok-delete_one.ensures.pending f (c.loop-index.invariant.pending f logged);
      covered = λ f covered. covered_lost f s c.delete_one.new.self id inside.0 may.redundant lost (c.loop-index.invariant.covered f covered);
      stay = stay_lost c.loop-index.index s c.delete_one.new.self c.loop-index.invariant.stay lost;
    }

pub returns-clause-searching : goal.returns-clause-searching
returns-clause-searching c = searching_written c.loop-index.self c.log_deletion.new.self c.loop-index.invariant.searching c.in_ok-log_deletion.ensures.same

pub returns-clause-visited : goal.returns-clause-visited
returns-clause-visited c = visited_written c.loop-index.self c.log_deletion.new.self c.loop-index.invariant.visited c.in_ok-log_deletion.ensures.same

pub returns-clause-reduced : goal.returns-clause-reduced
returns-clause-reduced c = reduced_written c.args.self.now c.loop-index.self c.log_deletion.new.self c.loop-index.invariant.reduced c.in_ok-log_deletion.ensures.same

pub returns-clause-logged : goal.returns-clause-logged
returns-clause-logged c = λ f logged. logged_written f c.args.self.now c.loop-index.self c.log_deletion.new.self
    c.loop-index.gone.items logged (c.loop-index.invariant.covered f logged.covered) c.loop-index.invariant.lines
    (c.loop-index.invariant.pending f logged) (c.in_ok-log_deletion.ensures.lines
    ∙ ap (λ (ids : List ℕ). with_deletion c.loop-index.self.lines (length c.loop-index.self.clauses.clauses) ids)
    c.deref.ensures.value) c.in_ok-log_deletion.ensures.same

pub returns-clause-bounded : goal.returns-clause-bounded
returns-clause-bounded c = bounded_written c.loop-index.index c.loop-index.self c.log_deletion.new.self
    (searching_written c.loop-index.self c.log_deletion.new.self c.loop-index.invariant.searching
    c.in_ok-log_deletion.ensures.same) c.loop-index.invariant.stay
    (omega (arith, c.loop-index.invariant.reduced.clauses, c.last-index-end.ensures.value, c.loop-index-test.false))
    c.in_ok-log_deletion.ensures.same
