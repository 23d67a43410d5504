use Rattle.std.proofs.Common.{◌∙◌, ℕ, List, length, ap, sym, subst, arith}
use Rattle.std.proofs.lemmas.Bool.{both_ways}
use Rattle.window_theory.specs.Nodes.{among, IsRising, AreJust}
use Rattle.window_theory.specs.Window.{HasPartner, IsInput, IsOutput, IsWindow}
use Rattle.window_theory.specs.WindowLaws.{taken_rising}
use Rattle.window_core.specs.GrowingLaws.{taken_gates}
use Rattle.window_core.specs.BoundingLaws.{no_partner, many_inputs, window_is, window_shaped}
use Rattle.window_core.proofs.root_window.window_of.Goals as goal

pub returns-then-not-has_partner-clause-none : goal.returns-then-not-has_partner-clause-none
returns-then-not-has_partner-clause-none c = λ w.
    no_partner c.args.net.now c.args.root c.args.partner c.args.gates.items w c.sources-sources.ensures.net c.requires.taken
    (λ has. both_ways c.has_partner.result c.if-not-has_partner.true (c.has_partner.ensures.no (subst (HasPartner c.args.partner) (sym c.deref.ensures.value) has)))

pub all_inputs-requires : goal.all_inputs-requires
all_inputs-requires c = λ p e.
    taken_gates c.args.net.now c.args.root c.args.partner c.args.gates.items c.requires.taken p (ap (λ (xs : List ℕ). among xs p) (sym c.deref-2.ensures.value) ∙ e)

pub returns-then-len-gt-MOST_INPUTS-clause-none : goal.returns-then-len-gt-MOST_INPUTS-clause-none
returns-then-len-gt-MOST_INPUTS-clause-none c = λ w.
    many_inputs c.args.net.now c.args.root c.args.partner c.args.gates.items c.in_ok-inputs.inputs.items w c.sources-sources.ensures.net c.requires.taken
    (subst (λ (gs : List ℕ). AreJust (IsInput c.args.net.now gs) c.in_ok-inputs.inputs.items) c.deref-2.ensures.value c.in_ok-inputs.ensures)
    (omega (arith, c.if-len-gt-MOST_INPUTS.true, c.len.ensures, c.in_ok-inputs.inputs.ok.0))

pub all_outputs-requires-clause-rising : goal.all_outputs-requires-clause-rising
all_outputs-requires-clause-rising c = subst IsRising (sym c.deref-3.ensures.value)
    (taken_rising c.args.net.now c.args.root c.args.partner c.args.gates.items c.sources-sources.ensures.net
    c.requires.taken)

pub all_outputs-requires-clause-gates : goal.all_outputs-requires-clause-gates
all_outputs-requires-clause-gates c = λ p e.
    taken_gates c.args.net.now c.args.root c.args.partner c.args.gates.items c.requires.taken p (ap (λ (xs : List ℕ). among xs p) (sym c.deref-3.ensures.value) ∙ e)

pub new-requires : goal.new-requires
new-requires c =
    window_shaped c.args.net.now c.args.root c.args.partner c.args.gates.items c.in_ok-inputs.inputs.items
    c.in_ok-outputs.outputs.items c.sources-sources.ensures.net c.requires.taken c.requires.some c.requires.few
    (subst (λ (gs : List ℕ). AreJust (IsInput c.args.net.now gs) c.in_ok-inputs.inputs.items) c.deref-2.ensures.value
    c.in_ok-inputs.ensures) (omega (arith, c.if-len-gt-MOST_INPUTS.false, c.len.ensures, c.in_ok-inputs.inputs.ok.0))
    (subst (λ (gs : List ℕ). AreJust (IsOutput c.args.net.now gs) c.in_ok-outputs.outputs.items)
    c.deref-3.ensures.value c.in_ok-outputs.ensures.outputs)
    (omega (arith, c.in_ok-outputs.ensures.few, ap (length {A = ℕ}) c.deref-3.ensures.value, c.requires.few))

pub returns-clause-some : goal.returns-clause-some
returns-clause-some c =
    subst (IsWindow c.args.net.now c.args.root c.args.partner (length c.args.gates.items)) (sym c.new.ensures)
    (window_is c.args.net.now c.args.root c.args.partner c.args.gates.items c.in_ok-inputs.inputs.items c.in_ok-outputs.outputs.items c.sources-sources.ensures.net c.requires.taken
    (subst (HasPartner c.args.partner) c.deref.ensures.value (c.has_partner.ensures.yes c.if-not-has_partner.false))
    (subst (λ (gs : List ℕ). AreJust (IsInput c.args.net.now gs) c.in_ok-inputs.inputs.items) c.deref-2.ensures.value
    c.in_ok-inputs.ensures) (omega (arith, c.if-len-gt-MOST_INPUTS.false, c.len.ensures, c.in_ok-inputs.inputs.ok.0))
    (subst (λ (gs : List ℕ). AreJust (IsOutput c.args.net.now gs) c.in_ok-outputs.outputs.items)
    c.deref-3.ensures.value c.in_ok-outputs.ensures.outputs)
    (omega (arith, c.in_ok-outputs.ensures.few, ap (length {A = ℕ}) c.deref-3.ensures.value, c.requires.few)))
