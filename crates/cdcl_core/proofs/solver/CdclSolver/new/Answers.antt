use Rattle.std.proofs.Common.{◌≡◌, ◌∙◌, true, false}
use Rattle.cdcl_core.proofs.Replacing.{logged_begun}
use Rattle.cdcl_core.proofs.solver.CdclSolver.new.Goals as goal

pub returns-in-Some-clause-solver : goal.returns-in-Some-clause-solver
returns-in-Some-clause-solver c = c.in_ok-refute.ensures.refuted c.args.cnf.now
    (logged_begun c.args.cnf.now c.in_ok-search.search c.begin.new.self c.in_ok-search.ensures.logged
    c.in_ok-conflict.ensures.begun)

pub returns-clause-solver : goal.returns-clause-solver
returns-clause-solver c = record {
  formula = c.has_empty.ensures.whole.formula;
  some = λ there. (let yes : c.has_empty.result ≡ true = c.has_empty.ensures.value.1 there in let no : c.has_empty.result ≡ false = c.if-has_empty.false in absurd (cc));
  logged = logged_begun c.args.cnf.now c.in_ok-search.search c.begin.new.self c.in_ok-search.ensures.logged c.in_ok-conflict.ensures.begun;
  least_is = c.in_ok-conflict.ensures.begun.least ∙ c.in_ok-search.ensures.least;
}
