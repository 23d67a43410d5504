use Rattle.command_line.specs.CommandLine.{spelled}
use Rattle.front_app.proofs.Fronting.{same_words, other_words}
use Rattle.front_app.proofs.serving.serve_formats.Goals as goal

pub returns-in_default : goal.returns-in_default
returns-in_default g c = same_words (spelled c.args.words.now) c.in-Ok.found.words c.in-Ok.found.asked _ _ _ _
    c.guide_asked.result c.in-Ok.ensures.asked c.in-Ok.ensures.words c.in_default.is c.guide_asked.ensures

pub returns : goal.returns
returns g c = other_words (spelled c.args.words.now) c.in-Ok.found.words c.in-Some.plain c.in-Ok.found.asked _ _ _ _
    c.guide_asked-2.result c.in-Ok.ensures.asked c.in-Ok.ensures.words c.in-Some.is c.guide_asked-2.ensures
