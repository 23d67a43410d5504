-- The subproblem is one of the size's: the one at this index.
use Rattle.std.proofs.Common.{List, Contains, subst}
use Rattle.enc_theory.specs.declared.subproblem.Subproblem.{Subproblem}
use Rattle.cert_file.specs.Stages.{later_of}
use Rattle.cert_file.proofs.SectionLines.{first_of, same_first, formula_at}
use Rattle.cert_file.proofs.logs.formula_in.Goals as goal

pub formula_of-requires-clause-subproblem : goal.formula_of-requires-clause-subproblem
formula_of-requires-clause-subproblem c =
    let r = c.args.running.now in
    subst (λ (subproblems : List Subproblem). Contains subproblems c.subproblem_in.result.now) c.requires.subproblems
    (first_of r.subproblems.items r.at c.subproblem_in.result.now (later_of r) c.subproblem_in.ensures)

pub returns : goal.returns
returns c = λ subproblem named.
    let r = c.args.running.now in
    formula_at c.formula_of.result r.header r.size c.subproblem_in.result.now subproblem
    (same_first c.subproblem_in.result.now subproblem (later_of r) (later_of r) _ c.subproblem_in.ensures named)
    c.formula_of.ensures
