use Rattle.std.specs.Prelude.{ℕ, ◌+◌, ◌*◌, ◌<◌, ◌≤◌, List, length, max}
use Rattle.std.proofs.Common.{◌∙◌, arith}
use Rattle.sat_theory.specs.Formula.{Formula}
use Rattle.sat_theory.specs.Line.{Line}
use Rattle.sat_theory.specs.Log.{additions}
use Rattle.sat_solve.specs.Answering.{most_past}
use Rattle.equiv_theory.specs.Miter.{miter}
use Rattle.equiv_core.specs.Limits.{IsWithinBudget}
use Rattle.equiv_core.specs.SinkLaws.{miter_variables}
use Rattle.equiv_core.proofs.comparing.finished.Goals as goal

-- what was added before the last search, and what is left, bound its log
few_of : (added budget before clauses vars : ℕ) → added < max budget before + (clauses + vars + 3) →
    before ≤ budget + 101 * vars + 2 → added ≤ budget + (clauses + 102 * vars + 4)
few_of added budget before clauses vars short low = omega (arith, short, low)

within : (budget before : ℕ) (f : Formula) (lines : List Line) → additions lines < max budget before + most_past f →
    before ≤ budget + 101 * f.vars + 2 → IsWithinBudget budget f lines
within budget before f lines short low = few_of (additions lines) budget before (length f.clauses) f.vars short low

pub counterexample_of-requires-clause-long : goal.counterexample_of-requires-clause-long
counterexample_of-requires-clause-long g c =
    (rw c.in-Sat.is at (c.in_ok-log.ensures.bits (miter c.args.first.now c.args.second.now) c.args.budget c.requires.solver))
    ∙ miter_variables c.args.first.now c.args.second.now

pub returns-in-Open-clause-decides : goal.returns-in-Open-clause-decides
returns-in-Open-clause-decides g c = λ enough.
    rw c.in-Open.is at (c.in_ok-log.ensures.decides (miter c.args.first.now c.args.second.now) c.args.budget
    c.requires.solver (rw (miter_variables c.args.first.now c.args.second.now) (omega (arith, enough))))

pub returns-in-Unsat-clause-within_budget : goal.returns-in-Unsat-clause-within_budget
returns-in-Unsat-clause-within_budget g c =
    within c.args.budget _ (miter c.args.first.now c.args.second.now) c.in-Unsat.log
    (rw c.in-Unsat.is at (c.in_ok-log.ensures.few (miter c.args.first.now c.args.second.now) c.args.budget c.requires.solver))
    (rw (miter_variables c.args.first.now c.args.second.now) c.requires.few)

pub returns-in-Open-clause-within_budget : goal.returns-in-Open-clause-within_budget
returns-in-Open-clause-within_budget g c =
    within c.args.budget _ (miter c.args.first.now c.args.second.now) c.in-Open.log
    (rw c.in-Open.is at (c.in_ok-log.ensures.few (miter c.args.first.now c.args.second.now) c.args.budget c.requires.solver))
    (rw (miter_variables c.args.first.now c.args.second.now) c.requires.few)
