use Rattle.command_line.specs.CommandLine.{spelled}
use Rattle.file_words.specs.Lines.{line_value}
use Rattle.front_core.specs.Front.{promised_by}
use Rattle.front_formula.specs.MiterValues.{picked_value}
use Rattle.front_formula.proofs.Pairs.{with_miter}
use Rattle.front_formula.proofs.mitering.serve_line.Goals as goal

pub returns : goal.returns
returns g c = with_miter (promised_by g.P.Program.keeps g.P.Program.keeps_named g.P.Program.compares)
    (spelled c.args.words.now) (line_value c.args.line.now) (picked_value c.in-Ok.found) c.miter_budget.result
    c.in-Some.budget _ _ _ _ c.write_miter.result c.in-Ok.ensures c.miter_budget.ensures.exact c.in-Some.is
    c.write_miter.ensures
