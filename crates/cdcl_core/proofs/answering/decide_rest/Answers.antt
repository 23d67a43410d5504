use Rattle.std.proofs.Common.{◌≡◌, ◌+◌, ◌-◌, ◌<◌, ◌≤◌, ℕ, length, max, ap, subst, arith}
use Rattle.std.specs.Prelude.{IfOk}
use Rattle.sat_theory.specs.Log.{additions}
use Rattle.sat_solve.specs.Answering.{IfLogged, most_past}
use Rattle.clause_db.specs.Stored.{Stored}
use Rattle.cdcl_core.specs.Solving.{IsUnderWay}
use Rattle.cdcl_core.proofs.Restarting.{logged_restarted}
use Rattle.cdcl_core.proofs.UnderWay.{under_way_restarted}
use Rattle.cdcl_core.proofs.Showing.{open_less}
use Rattle.cdcl_core.proofs.answering.decide_rest.Goals as goal

pub total_budget-total-requires-clause-given : goal.total_budget-total-requires-clause-given
total_budget-total-requires-clause-given c = (under_way_restarted c.args.search.now c.close.new.self
    c.requires.under_way c.close.ensures.searching c.close.ensures.visited c.close.ensures.restarted).given

pub total_budget-total-requires-clause-few : goal.total_budget-total-requires-clause-few
total_budget-total-requires-clause-few c =
    let way : IsUnderWay c.close.new.self = under_way_restarted c.args.search.now c.close.new.self c.requires.under_way c.close.ensures.searching c.close.ensures.visited c.close.ensures.restarted in
    omega (arith, way.few)

pub total_budget-total-requires-clause-least : goal.total_budget-total-requires-clause-least
total_budget-total-requires-clause-least c = (under_way_restarted c.args.search.now c.close.new.self
    c.requires.under_way c.close.ensures.searching c.close.ensures.visited c.close.ensures.restarted).least

pub returns-clause-bits : goal.returns-clause-bits
returns-clause-bits c = λ f logged. c.answer.ensures.bits f (logged_restarted f c.args.search.now c.close.new.self logged c.close.ensures.restarted)

pub returns-clause-sat : goal.returns-clause-sat
returns-clause-sat c = λ f logged. c.answer.ensures.sat f (logged_restarted f c.args.search.now c.close.new.self logged c.close.ensures.restarted)

pub returns-clause-unsat : goal.returns-clause-unsat
returns-clause-unsat c = λ f logged. c.answer.ensures.unsat f (logged_restarted f c.args.search.now c.close.new.self logged c.close.ensures.restarted)

pub returns-clause-kept : goal.returns-clause-kept
returns-clause-kept c = λ f logged. c.answer.ensures.kept f (logged_restarted f c.args.search.now c.close.new.self logged c.close.ensures.restarted)

pub returns-clause-live_bounded : goal.returns-clause-live_bounded
returns-clause-live_bounded c = λ f logged. c.answer.ensures.live_bounded f (logged_restarted f c.args.search.now c.close.new.self logged c.close.ensures.restarted)

pub returns-clause-open : goal.returns-clause-open
returns-clause-open c = λ f logged none.
    let low : max c.args.search.now.least c.args.budget ≤ c.total_budget-total.result =
    omega (
      arith,
      c.total_budget-total.ensures.least,
      c.total_budget-total.ensures.budget,
      c.close.ensures.restarted.least,
    ) in
    open_less f c.answer.result (max c.args.search.now.least c.args.budget) c.total_budget-total.result low
    (c.answer.ensures.open f (logged_restarted f c.args.search.now c.close.new.self logged c.close.ensures.restarted)
    none)

pub returns-clause-decides : goal.returns-clause-decides
returns-clause-decides c = λ f logged none enough.
    let low : max c.args.search.now.least c.args.budget ≤ c.total_budget-total.result =
    omega (
      arith,
      c.total_budget-total.ensures.least,
      c.total_budget-total.ensures.budget,
      c.close.ensures.restarted.least,
    ) in
    c.answer.ensures.decides f (logged_restarted f c.args.search.now c.close.new.self logged c.close.ensures.restarted) none (omega (arith, low, enough))

pub close-requires-clause-searching : goal.close-requires-clause-searching
close-requires-clause-searching c = c.requires.under_way.searching

pub close-requires-clause-visited : goal.close-requires-clause-visited
close-requires-clause-visited c = c.requires.under_way.visited

pub returns-clause-few : goal.returns-clause-few
returns-clause-few c = λ f logged.
    let s = c.args.search.now in
    let clauses : length c.close.new.self.clauses.clauses ≡ length s.clauses.clauses = ap (λ (x : Stored). length x.clauses) c.close.ensures.restarted.clauses in
    let total : c.total_budget-total.result ≡ max s.least (length s.clauses.clauses - s.given + c.args.budget) =
    omega (
      arith,
      c.total_budget-total.ensures.total,
      clauses,
      c.close.ensures.restarted.given,
      c.close.ensures.restarted.least,
    ) in
    subst (λ (n : ℕ). IfOk c.answer.result (λ r. IfLogged r (λ lines. additions lines < n + most_past f))) total
    (c.answer.ensures.few f (logged_restarted f s c.close.new.self logged c.close.ensures.restarted))
