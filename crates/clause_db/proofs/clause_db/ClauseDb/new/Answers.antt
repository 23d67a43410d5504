use Rattle.std.proofs.Common.{◌≡◌, ◌∙◌, ℕ, ◌+◌, ◌<◌, List, ℤ, Some, take, ap, sym, length, slice_index_or, arith}
use Rattle.std.proofs.lemmas.List.{take_all, take_more, length_push}
use Rattle.clause_db.specs.Sorted.{sorted}
use Rattle.clause_db.specs.Stored.{Stored, none_stored, added, all_added}
use Rattle.clause_db.specs.StoredLaws.{all_added-push}
use Rattle.clause_db.proofs.Databases.{first_new, live_new}
use Rattle.clause_db.proofs.clause_db.ClauseDb.new.Goals as goal

pub returns-clause-all : goal.returns-clause-all
returns-clause-all c =
    let long = ap length c.clauses-clause-items.ensures.value in
    let all : take c.loop-clause.clause-index c.args.cnf.now.clauses ≡ c.args.cnf.now.clauses =
    take_all c.loop-clause.clause-index c.args.cnf.now.clauses (omega (arith, c.loop-clause-test.false, long)) in
    c.loop-clause.invariant.clauses ∙ ap (all_added (none_stored c.args.cnf.now.vars)) all

pub returns-clause-clauses : goal.returns-clause-clauses
returns-clause-clauses c = live_new c.args.cnf.now.vars c.args.cnf.now.clauses c.loop-clause.clauses (returns-clause-all c)

pub returns-clause-watches : goal.returns-clause-watches
returns-clause-watches c = first_new c.args.cnf.now.vars c.args.cnf.now.clauses c.loop-clause.clauses (returns-clause-all c)

pub loop-clause-preserved : goal.loop-clause-preserved
loop-clause-preserved c =
    let cs = c.args.cnf.now.clauses in
    let index = c.loop-clause.clause-index in
    let before = all_added (none_stored c.args.cnf.now.vars) (take index cs) in
    let inside : index < length cs = omega (arith, c.loop-clause-test.true, ap length c.clauses-clause-items.ensures.value) in
    let clause = slice_index_or cs index c.clause-item.result in
    let item : c.lits.result.now ≡ clause = c.lits.ensures.value ∙ c.clause-item.is ∙ ap (λ (xs : List (List ℤ)). slice_index_or xs index c.clause-item.result) c.clauses-clause-items.ensures.value in
    let one : c.add.new.self ≡ added before clause = c.in_ok-add.ensures.ok ∙ ap (λ (s : Stored). added s c.lits.result.now) c.loop-clause.invariant.clauses ∙ ap (added before) item in
    record {
      clauses = one ∙ sym (all_added-push (none_stored c.args.cnf.now.vars) (take index cs) clause)
          ∙ ap (all_added (none_stored c.args.cnf.now.vars)) (sym (take_more cs index c.clause-item.result inside));
      vars = ap (λ (s : Stored). s.vars) c.in_ok-add.ensures.ok ∙ c.loop-clause.invariant.vars;
      whole = c.add.ensures.whole;
      count = ap (λ (s : Stored). length s.clauses) c.in_ok-add.ensures.ok
          ∙ length_push c.loop-clause.clauses.clauses (Some (sorted c.lits.result.now))
          ∙ ap (λ (n : ℕ). n + 1) c.loop-clause.invariant.count;
    }
