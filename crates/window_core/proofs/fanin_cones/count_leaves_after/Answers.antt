use Rattle.std.proofs.Common.{◌∙◌, ◌+◌, ℕ, Bool, true, false, length, refl, ap}
use Rattle.std.specs.Prelude.{if◌then◌else◌}
use Rattle.window_core.specs.ExpandingLaws.{count_code}
use Rattle.window_core.proofs.fanin_cones.count_leaves_after.Goals as goal

pub returns : goal.returns
returns c =
    count_code c.args.gate.now c.args.prefix.now c.is_new-first.result c.is_new-second.result
    (length c.args.prefix.now + c.one_if.result + c.one_if-2.result) c.one_if.result c.one_if-2.result c.requires
    c.is_new-first.ensures c.is_new-second.ensures
    c.one_if.ensures
    (c.one_if-2.ensures ∙ ap {B = ℕ} (λ (b : Bool). if b then 1 else 0) (c.and_not-other.ensures
    ∙ ap (λ (s : Bool). if c.is_new-second.result then (if s then false else true) else false) c.same_node.ensures))
    refl
