use Rattle.std.specs.Prelude.{IfOk, ◌+◌, ◌-◌, ◌<◌, length, max}
use Rattle.std.proofs.Common.{sym, subst}
use Rattle.sat_theory.specs.Log.{additions}
use Rattle.sat_solve.specs.Answering.{IfLogged, most_past}
use Rattle.cdcl_core.specs.Solving.{Solving, FitsStatusOf}
use Rattle.cdcl_core.proofs.solver.CdclSolver.finish.Goals as goal

pub returns-clause-bits : goal.returns-clause-bits
returns-clause-bits c = λ f least of. c.conclude.ensures.bits f least (subst (λ (s : Solving). FitsStatusOf f least s.search s.status) (sym c.self.view_is) of)

pub returns-clause-sat : goal.returns-clause-sat
returns-clause-sat c = λ f least of. c.conclude.ensures.sat f least (subst (λ (s : Solving). FitsStatusOf f least s.search s.status) (sym c.self.view_is) of)

pub returns-clause-unsat : goal.returns-clause-unsat
returns-clause-unsat c = λ f least of. c.conclude.ensures.unsat f least (subst (λ (s : Solving). FitsStatusOf f least s.search s.status) (sym c.self.view_is) of)

pub returns-clause-open : goal.returns-clause-open
returns-clause-open c = λ f least of. c.conclude.ensures.open f least (subst (λ (s : Solving). FitsStatusOf f least s.search s.status) (sym c.self.view_is) of)

pub returns-clause-kept : goal.returns-clause-kept
returns-clause-kept c = λ f least of. c.conclude.ensures.kept f least (subst (λ (s : Solving). FitsStatusOf f least s.search s.status) (sym c.self.view_is) of)

pub returns-clause-live_bounded : goal.returns-clause-live_bounded
returns-clause-live_bounded c = λ f least of. c.conclude.ensures.live_bounded f least (subst (λ (s : Solving). FitsStatusOf f least s.search s.status) (sym c.self.view_is) of)

pub returns-clause-few : goal.returns-clause-few
returns-clause-few c = λ f least of.
    subst (λ (s : Solving). IfOk c.conclude.result (λ r. IfLogged r (λ lines.
    additions lines < max least (length s.search.clauses.clauses - s.search.given + c.args.budget) + most_past f))) c.self.view_is
    (c.conclude.ensures.few f least (subst (λ (s : Solving). FitsStatusOf f least s.search s.status) (sym c.self.view_is) of))
