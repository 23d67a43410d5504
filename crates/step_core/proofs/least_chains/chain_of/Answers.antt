-- The chain of a solution.
use Rattle.step_core.specs.LeastChainLaws.{fitting_made, small_made}
use Rattle.step_core.proofs.least_chains.chain_of.Goals as goal

pub returns : goal.returns
returns c = λ basis over. fitting_made c.args.spec.now basis c.args.stack c.n-n.result c.into_steps.result.items
    c.in_ok-outs.outs.items c.new.result c.n-inputs.ensures.whole c.n-n.ensures.whole c.n-n.ensures.inputs
    c.requires.inputs c.into_steps.ensures over c.in_ok-outs.ensures.count c.in_ok-outs.ensures.each c.new.ensures

pub new-requires : goal.new-requires
new-requires c = small_made c.args.spec.now c.args.stack c.n-n.result c.into_steps.result.items c.in_ok-outs.outs.items
    c.n-inputs.ensures.whole c.n-n.ensures.whole c.n-n.ensures.inputs c.requires.inputs c.into_steps.ensures
    c.in_ok-outs.ensures.count c.in_ok-outs.ensures.each
