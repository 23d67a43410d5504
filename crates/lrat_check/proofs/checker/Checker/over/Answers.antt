use Rattle.std.proofs.Common.{◌≡◌, ℕ, length, ap, ◌∙◌, sym, subst, true, ◌↔◌, []}
use Rattle.sat_theory.specs.Log.{HasEmpty}
use Rattle.lrat_check.specs.Checked.{Checked, state_of}
use Rattle.sat_theory.specs.State.{by_id, start}
use Rattle.lrat_check.specs.Live.{live_at}
use Rattle.lrat_check.specs.LiteralMarks.{HasRoom}
use Rattle.lrat_check.specs.Keeps.{IsChecker}
use Rattle.lrat_check.proofs.Starting.{checker_of, has_empty, accepted_none, same_state}
use Rattle.lrat_check.proofs.checker.Checker.over.Goals as goal

pub invariant_of-result : goal.invariant_of-result
invariant_of-result c =
    let vars : c.vars-vars.result ≡ c.args.cnf.vars = c.vars-vars.ensures.value in
    let loaded : live_at c.in_ok-clauses.clauses ≡ by_id c.args.cnf.clauses = c.in_ok-clauses.ensures ∙ ap by_id c.into_clauses.ensures.value in
    let room : HasRoom c.in_ok-marks.marks c.args.cnf.vars = subst (λ (n : ℕ). HasRoom c.in_ok-marks.marks n) vars c.in_ok-marks.ensures in
    subst (λ (n : ℕ). IsChecker n c.in_ok-clauses.clauses c.in_ok-marks.marks) (sym vars)
    (checker_of c.args.cnf c.in_ok-clauses.clauses c.in_ok-marks.marks c.vars-vars.ensures.whole.formula loaded room)

pub returns-clause-accepted : goal.returns-clause-accepted
returns-clause-accepted c =
    let error_in : (c.has_empty-refuted.result ≡ true) ↔ HasEmpty c.args.cnf [] = has_empty c.args.cnf c.has_empty-refuted.result c.has_empty-refuted.ensures.value in
    let checked : Checked = record { live = c.in_ok-clauses.clauses; vars = c.vars-vars.result; greatest = length c.clauses.result.now; refuted = c.has_empty-refuted.result } in
    let state : state_of checked ≡ start c.args.cnf =
    same_state (live_at c.in_ok-clauses.clauses) (by_id c.args.cnf.clauses) c.vars-vars.result c.args.cnf.vars
    (length c.clauses.result.now) (length c.args.cnf.clauses) (c.in_ok-clauses.ensures
    ∙ ap by_id c.into_clauses.ensures.value) c.vars-vars.ensures.value (ap length c.clauses.ensures.value) in
    accepted_none c.args.cnf checked c.vars-vars.ensures.whole.formula state error_in
