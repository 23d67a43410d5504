use Rattle.command_line.specs.CommandLine.{spelled}
use Rattle.front_core.specs.Front.{promised_by}
use Rattle.front_formula.proofs.Runs.{formula_run, other_run}
use Rattle.front_formula.proofs.serving.serve.Goals as goal

pub returns-then-names_formula : goal.returns-then-names_formula
returns-then-names_formula g c =
    formula_run (promised_by g.P.Program.keeps g.P.Program.keeps_named g.P.Program.compares) (spelled c.args.words.now)
    c.names_formula.result _ _ _ _ c.serve_formula.result c.names_formula.ensures c.if-names_formula.true
    c.serve_formula.ensures

pub returns : goal.returns
returns g c =
    other_run (promised_by g.P.Program.keeps g.P.Program.keeps_named g.P.Program.compares) (spelled c.args.words.now)
    c.names_formula.result _ _ _ _ c.serve_program.result c.names_formula.ensures c.if-names_formula.false
    c.serve_program.ensures
