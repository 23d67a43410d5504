use Rattle.std.proofs.Common.{◌≡◌, ◌∙◌, ℕ, length, sym, ap, subst}
use Rattle.clause_db.specs.Stored.{Stored, live_in, none_stored}
use Rattle.clause_db.specs.StoredLaws.{all_added-vars}
use Rattle.conflict_core.specs.Learning.{IsReady}
use Rattle.cdcl_core.proofs.Beginning.{count_begun, layered_begun}
use Rattle.cdcl_core.proofs.Logging.{log_begun, new_begun, covered_begun}
use Rattle.cdcl_core.proofs.search.Search.new.Goals as goal

pub returns-clause-logged : goal.returns-clause-logged
returns-clause-logged c = record {
  log = rw (c.in_ok-clauses.ensures.all, c.new-7.ensures) (log_begun c.args.cnf.now c.args.least);
  new = rw c.new-7.ensures (new_begun c.args.cnf.now);
  given = ap length c.clauses.ensures.value;
  covered = covered_begun c.args.cnf.now _ c.in_ok-clauses.ensures.all (ap length c.clauses.ensures.value);
}

pub returns-clause-searching : goal.returns-clause-searching
returns-clause-searching c =
    let f = c.args.cnf.now in
    let is = c.in_ok-clauses.ensures.all in
    let trail_vars : c.in_ok-trail.trail.vars ≡ f.vars = c.in_ok-trail.ensures.vars ∙ c.vars-vars.ensures.value in
    record {
      stored = c.in_ok-clauses.ensures.whole;
      vars = ap (λ (s : Stored). s.vars) is ∙ all_added-vars (none_stored f.vars) f.clauses ∙ sym trail_vars;
      layered = layered_begun (live_in c.in_ok-clauses.clauses) c.in_ok-trail.trail c.new-6.result.items c.in_ok-trail.ensures.whole c.in_ok-trail.ensures.empty c.new-6.ensures.items;
      ready = subst (λ (n : ℕ). IsReady n c.in_ok-analysis.analysis) (sym c.in_ok-trail.ensures.vars) c.in_ok-analysis.ensures;
      deciding = c.in_ok-decision_heap.ensures c.in_ok-trail.trail c.in_ok-trail.ensures.vars;
    }

pub returns-clause-clauses : goal.returns-clause-clauses
returns-clause-clauses c = ap (λ (s : Stored). length s.clauses) c.in_ok-clauses.ensures.all ∙ count_begun c.args.cnf.now

pub returns-clause-given : goal.returns-clause-given
returns-clause-given c = ap length c.clauses.ensures.value ∙ sym (ap (λ (s : Stored). length s.clauses) c.in_ok-clauses.ensures.all ∙ count_begun c.args.cnf.now)
