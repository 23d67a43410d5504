use Rattle.command_line.specs.CommandLine.{spelled}
use Rattle.front_app.proofs.Wishing.{without_wish, by_wish}
use Rattle.front_app.proofs.serving.serve_wishes.Goals as goal

pub returns-in_default : goal.returns-in_default
returns-in_default g c = without_wish (spelled c.args.words.now) c.in-Ok.found _ _ _ _ c.serve_formats.result
    c.in-Ok.ensures.value c.in_default.is c.serve_formats.ensures

pub returns : goal.returns
returns g c = by_wish (spelled c.args.words.now) c.in-Ok.found c.in-Some.wish _ _ _ _ c.serve_wish.result
    c.in-Ok.ensures.value c.in-Some.is c.serve_wish.ensures
