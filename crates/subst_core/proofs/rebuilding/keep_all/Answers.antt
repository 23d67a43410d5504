use Rattle.std.proofs.Common.{◌≡◌, ℕ, length, vec_len, ◌∙◌, ap, sym, subst, arith}
use Rattle.net_theory.specs.Net.{end_of}
use Rattle.net_theory.specs.Moving.{Kept}
use Rattle.net_core.specs.Marks.{kept}
use Rattle.window_theory.specs.Substituted.{early_kept, late_start}
use Rattle.subst_core.specs.Lists.{window_of, AllBelow}
use Rattle.subst_core.specs.Placing.{with_chain}
use Rattle.subst_core.proofs.Rebuilds.{inputs_below, gates_below, outputs_below, early_few, late_few}
use Rattle.subst_core.proofs.rebuilding.keep_all.Goals as goal

pub keep_early-requires-clause-inputs : goal.keep_early-requires-clause-inputs
keep_early-requires-clause-inputs c = inputs_below c.args.net.now (window_of c.args.window.now) c.requires.belongs

pub put_chain-requires-clause-inputs : goal.put_chain-requires-clause-inputs
put_chain-requires-clause-inputs c =
    let size : end_of c.args.net.now ≡ length c.keep_early.new.nodes = sym (c.keep_early.auto.nodes ∙ c.requires.node_count) in
    subst (λ (b : ℕ). AllBelow b c.args.window.now.inputs.now) size (inputs_below c.args.net.now (window_of c.args.window.now) c.requires.belongs)

pub put_chain-requires-clause-outputs : goal.put_chain-requires-clause-outputs
put_chain-requires-clause-outputs c =
    let size : end_of c.args.net.now ≡ length c.keep_early.new.nodes = sym (c.keep_early.auto.nodes ∙ c.requires.node_count) in
    subst (λ (b : ℕ). AllBelow b c.args.window.now.outputs.now) size (outputs_below c.args.net.now (window_of c.args.window.now) c.requires.belongs)

pub put_chain-requires-clause-room : goal.put_chain-requires-clause-room
put_chain-requires-clause-room c =
    let n = c.args.net.now in
    let size : vec_len c.keep_early.new.gates ≡ length c.keep_early.new.gates.items = c.keep_early.new.gates.ok.0 in
    let same : length c.keep_early.new.gates.items ≡ length (early_kept n (window_of c.args.window.now)).gates = ap (λ (k : Kept). length k.gates) c.in_ok-keep_early.ensures.kept in
    omega (arith, size, same, early_few n (window_of c.args.window.now) c.sources-sources.ensures.net, c.sources-sources.ensures.sources)

pub keep_late-requires-clause-inside : goal.keep_late-requires-clause-inside
keep_late-requires-clause-inside c = gates_below c.args.net.now (window_of c.args.window.now) c.requires.belongs

pub keep_late-requires-clause-room : goal.keep_late-requires-clause-room
keep_late-requires-clause-room c =
    let n = c.args.net.now in
    let w = window_of c.args.window.now in
    let chain = c.args.chain.now in
    let size : vec_len c.put_chain.new.gates ≡ length c.put_chain.new.gates.items = c.put_chain.new.gates.ok.0 in
    let put : kept c.put_chain.new.nodes c.put_chain.new.gates.items ≡ late_start n w chain =
    c.in_ok-put_chain.ensures
    ∙ ap (λ (s : ℕ). with_chain s w chain (kept c.keep_early.new.nodes c.keep_early.new.gates.items)) c.sources-sources.ensures.sources
    ∙ ap (with_chain n.sources w chain) c.in_ok-keep_early.ensures.kept in
    let same : length c.put_chain.new.gates.items ≡ length (late_start n w chain).gates = ap (λ (k : Kept). length k.gates) put in
    omega (arith, size, same, late_few n w chain c.sources-sources.ensures.net c.requires.belongs c.requires.fits c.requires.room)
