use Rattle.std.proofs.Common.{◌≡◌, ◌∙◌, ◌+◌, ◌-◌, ◌++◌, ℕ, length, vec_len, take, drop, replicate, sym, ap}
use Rattle.chain_theory.specs.Operator.{digit}
use Rattle.lane_sim.specs.LaneLaws.{leaf_code}
use Rattle.lane_sim.proofs.leaves.push_leaf.Goals as goal

pub returns : goal.returns
returns c =
    let size : vec_len c.args.lanes.now ≡ length c.args.lanes.now.items = c.args.lanes.now.ok.0 in
    let slice : c.deref_mut.result.now ≡ take (c.len-start.result + c.args.width) c.args.lanes.now.items ++ replicate (c.len-start.result + c.args.width - c.len-start.result) 0 =
    c.deref_mut.ensures.value ∙ c.in_ok-resize.ensures.items
    ∙ ap (λ (n : ℕ). take (c.len-start.result + c.args.width) c.args.lanes.now.items ++
    replicate (c.len-start.result + c.args.width - n) 0) (sym c.len-start.ensures) in
    leaf_code (λ row. digit row c.args.k) c.args.lanes.now.items c.deref_mut.result.now c.write_leaf.new.lanes
    (drop (length c.write_leaf.new.lanes) c.resize.new.self.items) c.len-start.result c.args.width
    c.resize.new.self.len
    (c.len-start.ensures ∙ size) c.in_ok-resize.ensures.len slice c.write_leaf.ensures
