use Rattle.std.proofs.Common.{ℕ, ◌+◌, ◌-◌, ltb, get_or, length, sym}
use Rattle.std.proofs.lemmas.Bool.{cond-true, lt-ltb}
use Rattle.net_theory.specs.declared.data.Sig.TheVariants.{Zero, Node}
use Rattle.net_core.specs.Marks.{nodes_of}
use Rattle.subst_core.proofs.steps.chain_sig.Goals as goal

pub returns-then-index-inputs : goal.returns-then-index-inputs
unfolding nodes_of
returns-then-index-inputs c =
    let i : ℕ = c.args.node - 1 in
    let inputs = c.args.inputs.now in
    sym (cond-true (ltb i (length inputs)) (get_or c.args.nodes.now (get_or inputs i 0) Zero) (Node (c.args.first + (i - length inputs))) (lt-ltb i (length inputs) c.if-index-inputs.true))
