use Rattle.front_wish.specs.AskedWishes.{wish_value}
use Rattle.front_wish.proofs.Runs.{answered}
use Rattle.front_wish.proofs.serving.run_wish.Goals as goal

pub returns : goal.returns
returns g c = answered (wish_value c.args.wish.now) _ _ _ _ _ c.serve_outputs.result c.input_of-input.ensures
    c.serve_outputs.ensures
