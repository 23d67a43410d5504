use Rattle.std.proofs.Common.{sym, ◌∙◌}
use Rattle.file_words.specs.Lines.{line_value}
use Rattle.front_core.specs.Front.{promised_by}
use Rattle.front_core.proofs.Endings.{with_one, with_pair}
use Rattle.front_core.proofs.serving.serve_line.Goals as goal

pub returns-in-Some : goal.returns-in-Some
returns-in-Some g c = with_pair (promised_by g.P.Program.keeps g.P.Program.keeps_named g.P.Program.compares) (line_value c.args.line.now)
    c.in-Ok.command c.pair_budget.result c.in-Some.budget _ _ _ _ _ _ c.serve_outputs.result c.in-Ok.ensures.exact
    (sym c.fits.ensures ∙ c.if-not-fits.false) c.pair_budget.ensures.exact c.in-Some.is c.input_of-input.ensures
    c.second_of-second.ensures c.serve_outputs.ensures

pub returns : goal.returns
returns g c = with_one (promised_by g.P.Program.keeps g.P.Program.keeps_named g.P.Program.compares) (line_value c.args.line.now)
    c.in-Ok.command c.pair_budget.result _ _ _ _ _ c.serve_outputs-2.result c.in-Ok.ensures.exact
    (sym c.fits.ensures ∙ c.if-not-fits.false) c.pair_budget.ensures.exact c.in_default-pair_budget.is
    c.input_of-input.ensures c.serve_outputs-2.ensures
