use Rattle.std.proofs.Common.{◌∙◌, ℕ, List, ap, length}
use Rattle.sat_theory.specs.Line.{Line}
use Rattle.cdcl_core.specs.Reduction.{with_deletion}
use Rattle.cdcl_core.specs.Searching.{IsAccounted}
use Rattle.cdcl_core.proofs.Writing.{pending_none, accounted_written, live_bounded_written}
use Rattle.cdcl_core.proofs.search.Search.meet_final_bound.Goals as goal

pub returns-clause-gone : goal.returns-clause-gone
returns-clause-gone c = record {
  own = length c.delete_to_final_bound.new.self.clauses.clauses;
  ids = c.delete_to_final_bound.new.gone.items;
  is = (c.in_ok-log_deletion.ensures.lines ∙ ap (λ (ids : List ℕ). with_deletion c.delete_to_final_bound.new.self.lines
      (length c.delete_to_final_bound.new.self.clauses.clauses) ids) c.deref.ensures.value)
      ∙ ap (λ (ls : List Line). with_deletion ls (length c.delete_to_final_bound.new.self.clauses.clauses)
      c.delete_to_final_bound.new.gone.items) c.in_ok-delete_to_final_bound.ensures.lines;
}

pub returns-clause-accounted : goal.returns-clause-accounted
returns-clause-accounted c = λ f accounted. accounted_written f c.delete_to_final_bound.new.self
    c.log_deletion.new.self c.delete_to_final_bound.new.gone.items
    (c.in_ok-delete_to_final_bound.ensures.pending f
    (pending_none f c.args.self.now c.new-gone.result.items c.new-gone.ensures.items accounted))
    (c.in_ok-log_deletion.ensures.lines ∙ ap (λ (ids : List ℕ). with_deletion c.delete_to_final_bound.new.self.lines
    (length c.delete_to_final_bound.new.self.clauses.clauses) ids) c.deref.ensures.value)
    c.in_ok-log_deletion.ensures.same

pub returns-clause-live_bounded : goal.returns-clause-live_bounded
returns-clause-live_bounded c = λ f accounted.
    let now : IsAccounted f c.log_deletion.new.self = returns-clause-accounted c f accounted in
    live_bounded_written f c.delete_to_final_bound.new.self c.log_deletion.new.self
    (c.in_ok-delete_to_final_bound.ensures.meet_final_bound f
    (pending_none f c.args.self.now c.new-gone.result.items c.new-gone.ensures.items accounted))
    c.in_ok-log_deletion.ensures.same now
