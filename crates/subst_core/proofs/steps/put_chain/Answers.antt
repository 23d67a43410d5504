use Rattle.std.proofs.Common.{◌≡◌, ◌+◌, ◌++◌, ℕ, List, length, map, vec_len, ◌∙◌, ap, arith}
use Rattle.chain_theory.specs.Chain.{Step}
use Rattle.chain_theory.specs.declared.data.Out.{Out}
use Rattle.net_theory.specs.declared.data.Sig.{Sig}
use Rattle.net_core.specs.Marks.{nodes_of}
use Rattle.window_theory.specs.Substituted.{out_sig, with_sigs}
use Rattle.subst_core.specs.Lists.{window_of}
use Rattle.subst_core.specs.Placing.{chain_sig, chain_gate}
use Rattle.subst_core.proofs.Placings.{chain_put}
use Rattle.subst_core.proofs.steps.put_chain.Goals as goal

pub returns : goal.returns
returns c =
    let w = window_of c.args.window.now in
    let nodes = c.args.nodes.now in
    let old = c.args.gates.now.items in
    let first : ℕ = c.args.sources + 1 + c.len.result in
    let size : vec_len c.args.gates.now ≡ length old = c.args.gates.now.ok.0 in
    let at : first ≡ c.args.sources + 1 + length old = omega (arith, size, c.len.ensures) in
    let gates = c.in_ok-push_steps.ensures ∙ ap (λ (ss : List Step). old ++ map (chain_gate (nodes_of nodes) w.inputs first) ss) c.steps.ensures.steps in
    let sigs = c.in_ok-sigs.ensures ∙ ap (λ (xs : List Out). map (out_sig (chain_sig (nodes_of nodes) w.inputs first)) xs) c.outs.ensures.outs in
    let put = c.put_sigs.ensures ∙ ap (λ (ss : List Sig). with_sigs (nodes_of nodes) w.outputs ss) c.deref.ensures.value in
    chain_put c.args.sources first w c.args.chain.now nodes c.put_sigs.new.nodes c.in_ok-sigs.sigs.items old c.push_steps.new.gates.items c.requires.fits at gates sigs put
