use Rattle.chain_core.specs.Steps.{steps_of}
use Rattle.chain_core.proofs.Places.{value_is}
use Rattle.chain_core.proofs.values.value.Goals as goal

pub returns : goal.returns
returns c =
    let n = c.n-n.ensures.n in
    let steps = c.steps.ensures.steps in
    rw (← n, ← steps) (value_is c.steps_into.new.values c.inputs_into.new.values c.n-n.result c.args.row
    (steps_of c.steps.result.now) c.args.place c.steps_into.ensures c.inputs_into.ensures
    (rw (n, steps) c.steps.ensures.small.chain.steps) c.requires.from (rw (n, steps) c.requires.to))
