-- The result is the chain with permuted inputs.
use Rattle.std.proofs.Common.{◌∙◌}
use Rattle.chain_core.specs.Steps.{steps_of}
use Rattle.spec_cache.specs.ListLaws.{chain_is, chain_small}
use Rattle.spec_cache.proofs.chains.permuted_chain.Goals as goal

pub new-requires : goal.new-requires
new-requires c =
    chain_small c.args.order.now c.args.chain.now c.n-n.result (steps_of c.steps.result.now) (steps_of c.in_ok-steps.steps.items) c.outs.result.now c.in_ok-outs.outs.items
    c.n-n.ensures.n c.steps.ensures.steps c.outs.ensures.outs c.in_ok-steps.ensures c.in_ok-outs.ensures c.requires c.n-n.ensures.small

pub returns : goal.returns
returns c =
    c.new.ensures
    ∙ chain_is c.args.order.now c.args.chain.now c.n-n.result (steps_of c.steps.result.now) (steps_of c.in_ok-steps.steps.items) c.outs.result.now c.in_ok-outs.outs.items
    c.n-n.ensures.n c.steps.ensures.steps c.outs.ensures.outs c.in_ok-steps.ensures c.in_ok-outs.ensures
