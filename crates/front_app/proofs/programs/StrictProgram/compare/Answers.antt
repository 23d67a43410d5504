use Rattle.front_app.proofs.Comparing.{compared_in}
use Rattle.front_app.proofs.programs.StrictProgram.compare.Goals as goal

pub returns : goal.returns
returns g c =
    compared_in g.M.KnownWay.way c.compares_by.result g.F.KnownFormat.named g.G.KnownFormat.named c.format.result
    c.format-2.result c.args.budget c.args.text.now _ _ _ _ c.compares_by.ensures c.format.ensures c.format-2.ensures
    c.compare_in.ensures
