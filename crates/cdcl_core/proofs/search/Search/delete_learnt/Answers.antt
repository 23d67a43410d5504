use Rattle.std.proofs.Common.{◌∙◌, ℕ, ◌+◌, ◌<◌, ◌≤◌, List, slice_index_or, length, ap, subst, sym}
use Rattle.clause_db.specs.DeletingLaws.{some_live}
use Rattle.clause_db.specs.Stored.{live_in}
use Rattle.clause_db.specs.StoredLaws.{live_inside}
use Rattle.cdcl_core.specs.declared.search.Search.{Search}
use Rattle.cdcl_core.specs.Searching.{IsSearching, HasWatchInvariant}
use Rattle.cdcl_core.specs.Reduction.{with_deletion, MayDelete, HasDeletedOne}
use Rattle.cdcl_core.proofs.DeletingOne.{searching_lost, visited_lost, reduced_lost, covered_lost}
use Rattle.cdcl_core.proofs.Writing.{searching_written, visited_written, reduced_written, logged_written}
use Rattle.cdcl_core.proofs.search.Search.delete_learnt.Goals as goal

pub loop-id-preserved : goal.loop-id-preserved
loop-id-preserved c =
    let s : Search = c.loop-id.self in
    let id : ℕ = slice_index_or c.args.ids.now c.loop-id.id-index 0 in
    let may : MayDelete s id = c.may_delete.ensures.may c.if-not-may_delete.false in
    let lost : HasDeletedOne id s c.delete_one.new.self = c.in_ok-delete_one.ensures.lost in
    let live = some_live (live_in s.clauses id) may.is_live in
    let inside : (0 < id) × (id ≤ length s.clauses.clauses) = live_inside s.clauses id live.0 live.1 in
    record {
      searching = subst (λ (x : Search). IsSearching x) (sym lost.rest)
          (searching_lost s c.delete_one.new.self.clauses id (s.deleted + 1) live.0 c.loop-id.invariant.searching
          c.in_ok-delete_one.ensures.stored live.1 lost.deleted may.reason);
      visited = subst (λ (x : Search). HasWatchInvariant x) (sym lost.rest) (visited_lost s c.delete_one.new.self.clauses id (s.deleted + 1) inside.0 c.loop-id.invariant.visited lost.deleted);
      reduced = reduced_lost c.args.self.now s c.delete_one.new.self id inside.0 c.loop-id.invariant.reduced lost;
      lines = ap (λ (x : Search). x.lines) lost.rest ∙ c.loop-id.invariant.lines;
      pending = λ f logged. c.in_ok-delete_one.ensures.pending f (c.loop-id.invariant.pending f logged);
      covered = λ f covered. covered_lost f s c.delete_one.new.self id inside.0 may.redundant lost (c.loop-id.invariant.covered f covered);
    }

pub returns-clause-searching : goal.returns-clause-searching
returns-clause-searching c = searching_written c.loop-id.self c.log_deletion.new.self c.loop-id.invariant.searching c.in_ok-log_deletion.ensures.same

pub returns-clause-visited : goal.returns-clause-visited
returns-clause-visited c = visited_written c.loop-id.self c.log_deletion.new.self c.loop-id.invariant.visited c.in_ok-log_deletion.ensures.same

pub returns-clause-reduced : goal.returns-clause-reduced
returns-clause-reduced c = reduced_written c.args.self.now c.loop-id.self c.log_deletion.new.self c.loop-id.invariant.reduced c.in_ok-log_deletion.ensures.same

pub returns-clause-logged : goal.returns-clause-logged
returns-clause-logged c = λ f logged. logged_written f c.args.self.now c.loop-id.self c.log_deletion.new.self
    c.loop-id.gone.items logged (c.loop-id.invariant.covered f logged.covered) c.loop-id.invariant.lines
    (c.loop-id.invariant.pending f logged) (c.in_ok-log_deletion.ensures.lines
    ∙ ap (λ (ids : List ℕ). with_deletion c.loop-id.self.lines (length c.loop-id.self.clauses.clauses) ids)
    c.deref.ensures.value) c.in_ok-log_deletion.ensures.same
