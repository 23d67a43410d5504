use Rattle.std.proofs.Common.{◌≡◌, ◌∙◌, ℕ, List, length, map, ap, sym, subst, inl}
use Rattle.net_theory.specs.declared.data.Sig.TheVariants as sigs
use Rattle.window_core.specs.MaskingLaws.{signals_among}
use Rattle.observe_theory.specs.FanoutCone.{FanoutCone}
use Rattle.observe_core.specs.Putting.{IsAbove}
use Rattle.observe_core.specs.Differing.{AreDistinguishing}
use Rattle.observe_core.specs.ObservingLaws.{fanout_cone_above, mask_is}
use Rattle.observe_core.proofs.observing.rows_distinguished.Goals as goal

pub distinguishing-requires-clause-above : goal.distinguishing-requires-clause-above
distinguishing-requires-clause-above c =
    let gates : c.deref.result.now ≡ c.args.fanout_cone.now.gates = c.deref.ensures.value ∙ ap (λ (t : FanoutCone). t.gates) c.fanout_cone.view_is in
    subst (λ (os : List ℕ). IsAbove c.args.net.now os c.args.cone.now c.deref.result.now) (sym c.outputs.ensures.value)
    (subst (IsAbove c.args.net.now c.args.window.now.outputs c.args.cone.now) (sym gates)
    (fanout_cone_above c.args.net.now c.args.window.now c.args.fanout_cone.now c.args.cone.now c.sources-sources.ensures.net c.requires.belongs c.requires.fanout_cone c.requires.cone))

pub patterns_on-requires-clause-known : goal.patterns_on-requires-clause-known
patterns_on-requires-clause-known c =
    signals_among c.args.cone.now c.args.window.now.inputs c.deref-3.result.now (λ p e. c.requires.cone.covered p (c.requires.cone.just.all p (inl e)))
    (c.deref-3.ensures.value ∙ c.in_ok-signals.ensures ∙ ap (map sigs.Node) c.inputs.ensures.value)

pub returns : goal.returns
returns c =
    let cone_outputs : c.deref-2.result.now ≡ c.args.fanout_cone.now.cone_outputs = c.deref-2.ensures.value ∙ ap (λ (t : FanoutCone). t.cone_outputs) c.fanout_cone.view_is in
    let n = c.args.net.now in
    let leaves = c.args.cone.now.leaves in
    mask_is n c.args.window.now c.args.fanout_cone.now c.args.cone.now c.deref-3.result.now c.deref-4.result.now
    c.patterns_on.result c.sources-sources.ensures.net c.leaves-leaves.ensures.whole c.requires.hidden c.requires.cone
    (c.deref-3.ensures.value ∙ c.in_ok-signals.ensures ∙ ap (map sigs.Node) c.inputs.ensures.value)
    (ap (length {A = ℕ}) c.deref-4.ensures.value ∙ c.in_ok-differ.ensures.size)
    (subst (AreDistinguishing n leaves c.args.window.now.outputs c.args.fanout_cone.now.cone_outputs) (sym c.deref-4.ensures.value)
    (subst (λ (os : List ℕ). AreDistinguishing n leaves os c.args.fanout_cone.now.cone_outputs c.in_ok-differ.differ.items) c.outputs.ensures.value
    (subst (λ (ws : List ℕ). AreDistinguishing n leaves c.outputs.result.now ws c.in_ok-differ.differ.items) cone_outputs c.in_ok-differ.ensures.distinguishing)))
    c.patterns_on.ensures
