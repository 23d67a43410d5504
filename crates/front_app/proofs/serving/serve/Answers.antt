use Rattle.command_line.specs.CommandLine.{spelled}
use Rattle.front_app.proofs.Fronting.{as_they_are, by_formats}
use Rattle.front_app.proofs.serving.serve.Goals as goal

pub returns-in-Ok : goal.returns-in-Ok
returns-in-Ok g c = as_they_are (spelled c.args.words.now) _ _ _ _ _ c.guide_asked.result c.in-Ok.ensures.exact
    c.guide_asked.ensures

pub returns-in-Err : goal.returns-in-Err
returns-in-Err g c = by_formats (spelled c.args.words.now) _ _ _ _ _ c.serve_wishes.result c.in-Err.ensures.exact
    c.serve_wishes.ensures
