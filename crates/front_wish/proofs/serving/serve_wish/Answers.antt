use Rattle.front_wish.specs.AskedWishes.{wish_value}
use Rattle.front_wish.proofs.Runs.{served}
use Rattle.front_wish.proofs.serving.serve_wish.Goals as goal

pub returns : goal.returns
returns g c = served (wish_value c.args.wish.now) _ _ _ _ _ _ c.run_wish-status.result c.run_wish-status.ensures
    c.hint_of_netlist.ensures
