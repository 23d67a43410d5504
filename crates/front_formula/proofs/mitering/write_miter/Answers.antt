use Rattle.file_words.specs.Lines.{line_value}
use Rattle.front_formula.specs.MiterValues.{picked_value}
use Rattle.front_formula.proofs.Pairs.{both_written}
use Rattle.front_formula.proofs.mitering.write_miter.Goals as goal

pub returns : goal.returns
returns g c = both_written (g.P.Program.compares c.args.budget) c.args.budget (line_value c.args.line.now)
    (picked_value c.args.words.now) _ _ _ _ _ _ _ _ c.serve_outputs.result c.input_of-first.ensures
    c.second_of-second.ensures c.formula_of.ensures c.log_of.ensures c.serve_outputs.ensures
