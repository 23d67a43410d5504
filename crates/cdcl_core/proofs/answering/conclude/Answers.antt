use Rattle.std.proofs.Common.{◌*◌, ◌^◌, ◌≤◌, ℕ, [], max, Contains, subst, sym}
use Rattle.sat_theory.specs.Log.{ReachesBudget}
use Rattle.sat_solve.specs.Answering.{IfOpen}
use Rattle.std.specs.Prelude.{IfOk}
use Rattle.cdcl_core.specs.declared.solver.SolverStatus.{SolverStatus}
use Rattle.cdcl_core.specs.SearchEnds.{HasRefuted}
use Rattle.cdcl_core.specs.Solving.{IsSearchOf, FitsStatus, FitsStatusOf}
use Rattle.cdcl_core.proofs.Showing.{refuted_at_once, live_bounded_at_once, few_at_once}
use Rattle.cdcl_core.proofs.answering.conclude.Goals as goal

pub returns-in-Empty-clause-unsat : goal.returns-in-Empty-clause-unsat
returns-in-Empty-clause-unsat c = λ f least of.
    let there : Contains f.clauses [] = subst (λ (status : SolverStatus). FitsStatusOf f least c.args.search.now status) c.in-Empty.is of in
    refuted_at_once f c.new.result c.new.ensures there

pub returns-in-Empty-clause-live_bounded : goal.returns-in-Empty-clause-live_bounded
returns-in-Empty-clause-live_bounded c = λ f least of. live_bounded_at_once f c.new.result c.new.ensures

pub decide_rest-requires-clause-under_way : goal.decide_rest-requires-clause-under_way
decide_rest-requires-clause-under_way c = subst (λ (status : SolverStatus). FitsStatus c.args.search.now status) c.in-Undecided.is c.requires.fits

pub returns-in-Undecided-clause-bits : goal.returns-in-Undecided-clause-bits
returns-in-Undecided-clause-bits c = λ f least of.
    let is_of : IsSearchOf f least c.args.search.now = subst (λ (status : SolverStatus). FitsStatusOf f least c.args.search.now status) c.in-Undecided.is of in
    c.decide_rest.ensures.bits f is_of.logged

pub returns-in-Undecided-clause-sat : goal.returns-in-Undecided-clause-sat
returns-in-Undecided-clause-sat c = λ f least of.
    let is_of : IsSearchOf f least c.args.search.now = subst (λ (status : SolverStatus). FitsStatusOf f least c.args.search.now status) c.in-Undecided.is of in
    c.decide_rest.ensures.sat f is_of.logged is_of.formula

pub returns-in-Undecided-clause-unsat : goal.returns-in-Undecided-clause-unsat
returns-in-Undecided-clause-unsat c = λ f least of.
    let is_of : IsSearchOf f least c.args.search.now = subst (λ (status : SolverStatus). FitsStatusOf f least c.args.search.now status) c.in-Undecided.is of in
    c.decide_rest.ensures.unsat f is_of.logged

pub returns-in-Undecided-clause-open : goal.returns-in-Undecided-clause-open
returns-in-Undecided-clause-open c = λ f least of.
    let is_of : IsSearchOf f least c.args.search.now = subst (λ (status : SolverStatus). FitsStatusOf f least c.args.search.now status) c.in-Undecided.is of in
    subst (λ (n : ℕ). IfOk c.decide_rest.result (λ s. IfOpen s (λ lines. ReachesBudget f lines (max n c.args.budget)))) is_of.least_is (c.decide_rest.ensures.open f is_of.logged is_of.some)

pub returns-in-Undecided-clause-kept : goal.returns-in-Undecided-clause-kept
returns-in-Undecided-clause-kept c = λ f least of.
    let is_of : IsSearchOf f least c.args.search.now = subst (λ (status : SolverStatus). FitsStatusOf f least c.args.search.now status) c.in-Undecided.is of in
    c.decide_rest.ensures.kept f is_of.logged

pub returns-in-Undecided-clause-live_bounded : goal.returns-in-Undecided-clause-live_bounded
returns-in-Undecided-clause-live_bounded c = λ f least of.
    let is_of : IsSearchOf f least c.args.search.now = subst (λ (status : SolverStatus). FitsStatusOf f least c.args.search.now status) c.in-Undecided.is of in
    c.decide_rest.ensures.live_bounded f is_of.logged

pub returns-in-Undecided-clause-decides : goal.returns-in-Undecided-clause-decides
returns-in-Undecided-clause-decides c = λ f least of enough.
    let is_of : IsSearchOf f least c.args.search.now = subst (λ (status : SolverStatus). FitsStatusOf f least c.args.search.now status) c.in-Undecided.is of in
    c.decide_rest.ensures.decides f is_of.logged is_of.some (subst (λ (n : ℕ). 2 * 3 ^ f.vars ≤ max n c.args.budget) (sym is_of.least_is) enough)

pub log_of-requires : goal.log_of-requires
log_of-requires c = record { stored = subst (λ (status : SolverStatus). FitsStatus c.args.search.now status) c.in-Refuted.is c.requires.fits }

pub returns-in_ok-log_of-in-Refuted-clause-unsat : goal.returns-in_ok-log_of-in-Refuted-clause-unsat
returns-in_ok-log_of-in-Refuted-clause-unsat c = λ f least of.
    let refuted : HasRefuted f c.args.search.now = subst (λ (status : SolverStatus). FitsStatusOf f least c.args.search.now status) c.in-Refuted.is of in
    c.in_ok-log_of-in-Refuted.ensures.refutes f refuted

pub returns-in_ok-log_of-in-Refuted-clause-live_bounded : goal.returns-in_ok-log_of-in-Refuted-clause-live_bounded
returns-in_ok-log_of-in-Refuted-clause-live_bounded c = λ f least of.
    let refuted : HasRefuted f c.args.search.now = subst (λ (status : SolverStatus). FitsStatusOf f least c.args.search.now status) c.in-Refuted.is of in
    c.in_ok-log_of-in-Refuted.ensures.live_bounded f refuted.accounted

pub returns-in-Empty-clause-few : goal.returns-in-Empty-clause-few
returns-in-Empty-clause-few c = λ f least of. few_at_once f c.new.result _ c.new.ensures
