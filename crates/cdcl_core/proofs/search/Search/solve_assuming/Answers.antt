use Rattle.std.proofs.Common.{◌≡◌, ℕ, sym, subst}
use Rattle.std.specs.Prelude.{IfOk, IfSome}
use Rattle.sat_theory.specs.Formula.{IsWithin}
use Rattle.cdcl_core.proofs.Restarting.{logged_restarted}
use Rattle.cdcl_core.proofs.UnderWay.{under_way_restarted}
use Rattle.cdcl_core.proofs.search.Search.solve_assuming.Goals as goal

pub begin_assuming-requires-clause-searching : goal.begin_assuming-requires-clause-searching
begin_assuming-requires-clause-searching c = c.requires.under_way.searching

pub begin_assuming-requires-clause-visited : goal.begin_assuming-requires-clause-visited
begin_assuming-requires-clause-visited c = c.requires.under_way.visited

pub solve_assuming_to-requires-clause-under_way : goal.solve_assuming_to-requires-clause-under_way
solve_assuming_to-requires-clause-under_way c = under_way_restarted c.args.self.now c.begin_assuming.new.self
    c.requires.under_way c.in_ok-begin_assuming.ensures.searching c.in_ok-begin_assuming.ensures.visited
    c.in_ok-begin_assuming.ensures.restarted

pub solve_assuming_to-requires-clause-within : goal.solve_assuming_to-requires-clause-within
solve_assuming_to-requires-clause-within c = subst (λ (n : ℕ). IsWithin n c.args.assumptions.now) (sym c.in_ok-begin_assuming.ensures.restarted.vars) c.requires.within

pub returns-clause-logged : goal.returns-clause-logged
returns-clause-logged c = λ f log. c.solve_assuming_to.ensures.logged f (logged_restarted f c.args.self.now c.begin_assuming.new.self log c.in_ok-begin_assuming.ensures.restarted)

pub returns-clause-refuted : goal.returns-clause-refuted
returns-clause-refuted c = λ f log. c.solve_assuming_to.ensures.refuted f (logged_restarted f c.args.self.now c.begin_assuming.new.self log c.in_ok-begin_assuming.ensures.restarted)

pub returns-clause-vars : goal.returns-clause-vars
returns-clause-vars c = subst (λ (n : ℕ). IfOk c.solve_assuming_to.result
    (λ _. c.solve_assuming_to.new.self.trail.vars ≡ n)) c.in_ok-begin_assuming.ensures.restarted.vars
    c.solve_assuming_to.ensures.vars

pub returns-clause-least : goal.returns-clause-least
returns-clause-least c = subst (λ (n : ℕ). IfOk c.solve_assuming_to.result (λ ended.
    IfSome ended (λ _. c.solve_assuming_to.new.self.least ≡ n))) c.in_ok-begin_assuming.ensures.restarted.least
    c.solve_assuming_to.ensures.least
