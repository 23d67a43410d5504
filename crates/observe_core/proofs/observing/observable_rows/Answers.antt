use Rattle.std.proofs.Common.{length, ◌≡◌, ◌∙◌, ℕ, List, ap, sym, subst, arith}
use Rattle.window_theory.specs.Nodes.{among, IsRising, AreJust}
use Rattle.observe_theory.specs.FanoutCone.{FanoutCone}
use Rattle.observe_theory.specs.Unobservable.{IsConeRoot}
use Rattle.observe_core.specs.Observing.{IsEither}
use Rattle.observe_core.specs.ObservingLaws.{all_seen, directly_observable_seen, many_seen, first_within, observing_code}
use Rattle.observe_core.proofs.observing.observable_rows.Goals as goal

pub returns-then-fanout_cone : goal.returns-then-fanout_cone
returns-then-fanout_cone c =
    all_seen c.args.net.now c.args.window.now c.args.fanout_cone.now c.outputs-outputs.ensures.whole.few_inputs
    (λ row. directly_observable_seen c.args.net.now c.args.window.now c.args.fanout_cone.now row (ap (λ (t : FanoutCone). t.directly_observable) (sym c.fanout_cone.view_is) ∙ c.if-fanout_cone.true))

pub first_leaves-requires : goal.first_leaves-requires
first_leaves-requires c = subst IsRising (sym c.inputs.ensures.value) c.requires.belongs.inputs_rising

pub returns-then-are_too_many : goal.returns-then-are_too_many
returns-then-are_too_many c =
    let side_inputs : c.deref.result.now ≡ c.args.fanout_cone.now.side_inputs = c.deref.ensures.value ∙ ap (λ (t : FanoutCone). t.side_inputs) c.fanout_cone.view_is in
    let just : AreJust (IsConeRoot c.args.window.now c.args.fanout_cone.now) c.in_ok-first.first.items =
    subst (λ (xs : List ℕ). AreJust (IsEither c.args.window.now.inputs xs) c.in_ok-first.first.items) side_inputs
    (subst (λ (xs : List ℕ). AreJust (IsEither xs c.deref.result.now) c.in_ok-first.first.items)
    c.inputs.ensures.value c.in_ok-first.ensures) in
    all_seen c.args.net.now c.args.window.now c.args.fanout_cone.now c.outputs-outputs.ensures.whole.few_inputs
    (λ row. many_seen c.args.net.now c.args.window.now c.args.fanout_cone.now c.in_ok-first.first.items row just
    (omega (arith, c.are_too_many.ensures.yes c.if-are_too_many.true, ap (length {A = ℕ}) c.deref-2.ensures.value)))

pub fanin_cone-requires-clause-within : goal.fanin_cone-requires-clause-within
fanin_cone-requires-clause-within c = λ p e.
    let side_inputs : c.deref.result.now ≡ c.args.fanout_cone.now.side_inputs = c.deref.ensures.value ∙ ap (λ (t : FanoutCone). t.side_inputs) c.fanout_cone.view_is in
    let just : AreJust (IsConeRoot c.args.window.now c.args.fanout_cone.now) c.in_ok-first.first.items =
    subst (λ (xs : List ℕ). AreJust (IsEither c.args.window.now.inputs xs) c.in_ok-first.first.items) side_inputs
    (subst (λ (xs : List ℕ). AreJust (IsEither xs c.deref.result.now) c.in_ok-first.first.items)
    c.inputs.ensures.value c.in_ok-first.ensures) in
    first_within c.args.net.now c.args.window.now c.args.fanout_cone.now p c.sources-sources.ensures.net
    c.requires.belongs c.requires.fanout_cone (just.only p
    (ap (λ (xs : List ℕ). among xs p) (sym c.deref-3.ensures.value) ∙ e))

pub rows_distinguished-requires-clause-cone : goal.rows_distinguished-requires-clause-cone
rows_distinguished-requires-clause-cone c =
    let side_inputs : c.deref.result.now ≡ c.args.fanout_cone.now.side_inputs = c.deref.ensures.value ∙ ap (λ (t : FanoutCone). t.side_inputs) c.fanout_cone.view_is in
    let just : AreJust (IsConeRoot c.args.window.now c.args.fanout_cone.now) c.in_ok-first.first.items =
    subst (λ (xs : List ℕ). AreJust (IsEither c.args.window.now.inputs xs) c.in_ok-first.first.items) side_inputs
    (subst (λ (xs : List ℕ). AreJust (IsEither xs c.deref.result.now) c.in_ok-first.first.items)
    c.inputs.ensures.value c.in_ok-first.ensures) in
    observing_code c.args.net.now c.args.window.now c.args.fanout_cone.now c.in_ok-cone.cone c.in_ok-first.first.items c.deref-3.result.now c.deref-3.ensures.value
    just (omega (arith, c.are_too_many.ensures.no c.if-are_too_many.false, ap (length {A = ℕ}) c.deref-2.ensures.value))
    c.in_ok-cone.ensures.leaves c.in_ok-cone.ensures.gates c.in_ok-cone.ensures.covered c.in_ok-cone.ensures.in_fanin
