use Rattle.std.proofs.Common.{◌*◌, ◌^◌, ◌<◌, subst, arith}
use Rattle.sat_theory.specs.Log.{ReachesBudget}
use Rattle.sat_theory.specs.FewAdditions.{budget_kept}
use Rattle.cdcl_core.specs.declared.search.SearchEnd.{SearchEnd}
use Rattle.cdcl_core.specs.SearchEnds.{Ends, IsSatisfied, HasRefuted, HasReachedBudget}
use Rattle.cdcl_core.proofs.Showing.{values_satisfy}
use Rattle.cdcl_core.proofs.answering.answer.Goals as goal

pub returns-in_ok-assignment-in-Satisfied-clause-sat : goal.returns-in_ok-assignment-in-Satisfied-clause-sat
returns-in_ok-assignment-in-Satisfied-clause-sat c = λ f logged formula.
    let s = c.go_on.new.self in
    let valued : IsSatisfied f s = subst (λ (e : SearchEnd). Ends f c.args.budget s e) c.in-Satisfied.is (c.in_ok-go_on.ensures.ends f logged) in
    values_satisfy f s c.in_ok-assignment-in-Satisfied.field-0 formula c.in_ok-go_on.ensures.stored valued.vars valued.logged valued.values valued.settled c.in_ok-assignment-in-Satisfied.ensures

pub returns-in_ok-log_of-in-Refuted-clause-unsat : goal.returns-in_ok-log_of-in-Refuted-clause-unsat
returns-in_ok-log_of-in-Refuted-clause-unsat c = λ f logged.
    let refuted : HasRefuted f c.go_on.new.self = subst (λ (e : SearchEnd). Ends f c.args.budget c.go_on.new.self e) c.in-Refuted.is (c.in_ok-go_on.ensures.ends f logged) in
    c.in_ok-log_of-in-Refuted.ensures.refutes f refuted

pub returns-in_ok-log_of-in-Refuted-clause-live_bounded : goal.returns-in_ok-log_of-in-Refuted-clause-live_bounded
returns-in_ok-log_of-in-Refuted-clause-live_bounded c = λ f logged.
    let refuted : HasRefuted f c.go_on.new.self = subst (λ (e : SearchEnd). Ends f c.args.budget c.go_on.new.self e) c.in-Refuted.is (c.in_ok-go_on.ensures.ends f logged) in
    c.in_ok-log_of-in-Refuted.ensures.live_bounded f refuted.accounted

pub returns-in_ok-log_of-in-BudgetReached-clause-open : goal.returns-in_ok-log_of-in-BudgetReached-clause-open
returns-in_ok-log_of-in-BudgetReached-clause-open c = λ f logged none.
    let spent : HasReachedBudget f c.args.budget c.go_on.new.self = subst (λ (e : SearchEnd). Ends f c.args.budget c.go_on.new.self e) c.in-BudgetReached.is (c.in_ok-go_on.ensures.ends f logged) in
    c.in_ok-log_of-in-BudgetReached.ensures.spent f c.args.budget spent none

pub returns-in_ok-log_of-in-BudgetReached-clause-kept : goal.returns-in_ok-log_of-in-BudgetReached-clause-kept
returns-in_ok-log_of-in-BudgetReached-clause-kept c = λ f logged.
    let spent : HasReachedBudget f c.args.budget c.go_on.new.self = subst (λ (e : SearchEnd). Ends f c.args.budget c.go_on.new.self e) c.in-BudgetReached.is (c.in_ok-go_on.ensures.ends f logged) in
    c.in_ok-log_of-in-BudgetReached.ensures.kept f c.args.budget spent

pub returns-in_ok-log_of-in-BudgetReached-clause-live_bounded : goal.returns-in_ok-log_of-in-BudgetReached-clause-live_bounded
returns-in_ok-log_of-in-BudgetReached-clause-live_bounded c = λ f logged.
    let spent : HasReachedBudget f c.args.budget c.go_on.new.self = subst (λ (e : SearchEnd). Ends f c.args.budget c.go_on.new.self e) c.in-BudgetReached.is (c.in_ok-go_on.ensures.ends f logged) in
    c.in_ok-log_of-in-BudgetReached.ensures.live_bounded f (record { log = spent.logged.log; given = spent.logged.given })

pub returns-in_ok-log_of-in-BudgetReached-clause-decides : goal.returns-in_ok-log_of-in-BudgetReached-clause-decides
returns-in_ok-log_of-in-BudgetReached-clause-decides c = λ f logged none enough.
    let spent : ReachesBudget f c.in_ok-log_of-in-BudgetReached.field-0 c.args.budget = returns-in_ok-log_of-in-BudgetReached-clause-open c f logged none in
    let few : c.args.budget < 2 * 3 ^ f.vars = budget_kept f c.in_ok-log_of-in-BudgetReached.field-0 c.args.budget spent (returns-in_ok-log_of-in-BudgetReached-clause-kept c f logged) in
    omega (arith, few, enough)
