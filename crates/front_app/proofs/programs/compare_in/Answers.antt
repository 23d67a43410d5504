use Rattle.std.proofs.Common.{sym}
use Rattle.front_app.specs.declared.formats.CompareBy.TheVariants.{Order, Names}
use Rattle.front_app.proofs.Comparing.{compared_by}
use Rattle.front_app.proofs.programs.compare_in.Goals as goal

pub returns-in-Order : goal.returns-in-Order
returns-in-Order g c =
    compared_by c.args.way Order c.args.formats c.args.budget c.args.text.now _ _ _ _ (sym c.in-Order.is) c.perform.ensures

pub returns-in-Names : goal.returns-in-Names
returns-in-Names g c =
    compared_by c.args.way Names c.args.formats c.args.budget c.args.text.now _ _ _ _ (sym c.in-Names.is)
    c.perform-in-Names.ensures
