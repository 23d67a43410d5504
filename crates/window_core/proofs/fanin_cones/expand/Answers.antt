use Rattle.std.proofs.Common.{◌≡◌, ◌∙◌, [], ◌∷◌, ◌++◌, vec_len, ap, subst, sym}
use Rattle.window_theory.specs.Nodes.{IsRising}
use Rattle.window_theory.specs.FaninCone.{IsFullyExpanded}
use Rattle.window_core.specs.Rising.{put_sig}
use Rattle.window_core.specs.ExpandingLaws.{rising_prefix, sig_rising, too_many, pop_code}
use Rattle.window_core.proofs.fanin_cones.expand.Goals as goal

pub returns-in_default-clause-last : goal.returns-in_default-clause-last
returns-in_default-clause-last c = λ e. subst (IsFullyExpanded c.args.net.now) c.deref.ensures.value c.in_default.ensures.none

pub returns-then-is_too_much-clause-last : goal.returns-then-is_too_much-clause-last
returns-then-is_too_much-clause-last c = λ e.
    let some = c.in-Some.ensures.some in
    let parts : c.args.leaves.now.items ≡ some.0 ++ c.in-Some.node ∷ [] = sym c.deref.ensures.value ∙ some.1 in
    too_many c.args.net.now c.args.leaves.now.items some.0 c.in-Some.node c.gate_at-gate.result.now c.gate_at-gate.ensures.net c.requires.rising parts c.gate_at-gate.ensures.gate
    (c.is_too_much.ensures.yes c.if-is_too_much.true some.0 c.in-Some.node (c.deref-2.ensures.value ∙ parts))

pub put_sig-requires : goal.put_sig-requires
put_sig-requires c =
    let some = c.in-Some.ensures.some in
    let parts : c.args.leaves.now.items ≡ some.0 ++ c.in-Some.node ∷ [] = sym c.deref.ensures.value ∙ some.1 in
    let popped : c.pop.new.self.items ≡ some.0 =
    pop_code c.args.leaves.now.items c.pop.new.self.items some.0 c.in-Some.node
    (vec_len c.args.leaves.now) c.pop.ensures.rest c.args.leaves.now.ok.0 parts in
    subst IsRising (sym popped) (rising_prefix some.0 (c.in-Some.node ∷ []) (subst IsRising parts c.requires.rising))

pub put_sig-requires-2 : goal.put_sig-requires-2
put_sig-requires-2 c =
    let some = c.in-Some.ensures.some in
    let parts : c.args.leaves.now.items ≡ some.0 ++ c.in-Some.node ∷ [] = sym c.deref.ensures.value ∙ some.1 in
    let popped : c.pop.new.self.items ≡ some.0 =
    pop_code c.args.leaves.now.items c.pop.new.self.items some.0 c.in-Some.node
    (vec_len c.args.leaves.now) c.pop.ensures.rest c.args.leaves.now.ok.0 parts in
    subst IsRising (sym c.in_ok-put_sig.ensures)
    (sig_rising c.gate_at-gate.result.now.a c.pop.new.self.items (subst IsRising (sym popped) (rising_prefix some.0 (c.in-Some.node ∷ []) (subst IsRising parts c.requires.rising))))

pub returns-clause-expanded : goal.returns-clause-expanded
returns-clause-expanded c = λ e.
    let some = c.in-Some.ensures.some in
    let parts : c.args.leaves.now.items ≡ some.0 ++ c.in-Some.node ∷ [] = sym c.deref.ensures.value ∙ some.1 in
    let popped : c.pop.new.self.items ≡ some.0 =
    pop_code c.args.leaves.now.items c.pop.new.self.items some.0 c.in-Some.node
    (vec_len c.args.leaves.now) c.pop.ensures.rest c.args.leaves.now.ok.0 parts in
    record {
      node = c.in-Some.node;
      gate = c.gate_at-gate.result.now;
      prefix = some.0;
      of = c.gate_at-gate.ensures.gate;
      parts = parts;
      few = c.is_too_much.ensures.no c.if-is_too_much.false some.0 c.in-Some.node (c.deref-2.ensures.value ∙ parts);
      leaves = c.in_ok-put_sig-2.ensures ∙ ap (put_sig c.gate_at-gate.result.now.b) (c.in_ok-put_sig.ensures ∙ ap (put_sig c.gate_at-gate.result.now.a) popped);
      gates = c.in_ok-push.ensures.items;
    }
