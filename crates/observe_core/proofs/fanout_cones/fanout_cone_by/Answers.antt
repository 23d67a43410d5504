use Rattle.std.proofs.Common.{◌≡◌, ◌∙◌, ◌++◌, ℕ, List, ap, sym, subst}
use Rattle.observe_core.specs.Following.{HasFanoutCone}
use Rattle.observe_core.proofs.fanout_cones.fanout_cone_by.Goals as goal

pub fanout_cone_of-requires-clause-fanout_cone : goal.fanout_cone_of-requires-clause-fanout_cone
fanout_cone_of-requires-clause-fanout_cone c =
    let start : c.extend_from_slice.new.self.items ≡ c.args.window.now.gates =
    c.in_ok-extend_from_slice.ensures.items ∙ ap (λ (xs : List ℕ). xs ++
    c.gates.result.now) c.in_ok-all.ensures.items ∙ c.gates.ensures.value in
    subst (λ (xs : List ℕ). HasFanoutCone c.args.net.now c.args.window.now.gates xs c.take_fanout_cone.new.fanout_cone.items) (sym c.deref.ensures.value)
    (subst (λ (xs : List ℕ). HasFanoutCone c.args.net.now xs c.take_fanout_cone.new.all.items c.take_fanout_cone.new.fanout_cone.items) start c.in_ok-take_fanout_cone.ensures)
