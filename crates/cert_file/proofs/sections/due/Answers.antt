-- The next size comes after the last subproblem.
use Rattle.std.proofs.Common.{◌∙◌, List, ap, arith}
use Rattle.enc_theory.specs.declared.subproblem.Subproblem.{Subproblem}
use Rattle.cert_theory.specs.Judging.{before, sections_of}
use Rattle.cert_file.proofs.SectionLines.{drop_all}
use Rattle.cert_file.proofs.sections.due.Goals as goal

pub returns-clause-stands : goal.returns-clause-stands
unfolding before
returns-clause-stands c = λ number ls answer is.
    let r = c.args.running in
    let few = c.if-running-len.false in
    is ∙ ap (λ (ps : List Subproblem). sections_of r.header number (before r.size r.low ps) ls) (drop_all r.subproblems.items r.at (omega (arith, few, c.len.ensures)))
