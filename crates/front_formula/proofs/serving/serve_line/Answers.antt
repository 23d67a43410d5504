use Rattle.std.proofs.Common.{sym, ◌∙◌}
use Rattle.file_words.specs.Lines.{line_value}
use Rattle.front_formula.proofs.Runs.{part_served}
use Rattle.front_formula.proofs.serving.serve_line.Goals as goal

pub returns : goal.returns
returns g c = part_served (line_value c.args.line.now) c.in-Ok.found c.in-Some.asked _ _ _ _ c.write_part.result
    c.in-Ok.ensures c.in-Some.is (sym c.fits.ensures ∙ c.if-not-fits.false) c.write_part.ensures
