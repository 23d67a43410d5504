use Rattle.std.proofs.Common.{◌≡◌, ◌∙◌, ◌+◌, ◌-◌, ◌++◌, ℕ, length, vec_len, take, drop, replicate, sym, ap, subst}
use Rattle.lane_sim.specs.Combining.{EndsBefore}
use Rattle.lane_sim.specs.LaneLaws.{row_code}
use Rattle.lane_sim.proofs.simulation.push_row.Goals as goal

pub write_gate-requires-clause-first : goal.write_gate-requires-clause-first
write_gate-requires-clause-first c = subst (λ (n : ℕ). EndsBefore n c.args.width c.args.a) (sym (c.len-start.ensures ∙ c.args.lanes.now.ok.0)) c.requires.first

pub write_gate-requires-clause-second : goal.write_gate-requires-clause-second
write_gate-requires-clause-second c = subst (λ (n : ℕ). EndsBefore n c.args.width c.args.b) (sym (c.len-start.ensures ∙ c.args.lanes.now.ok.0)) c.requires.second

pub returns : goal.returns
returns c =
    let size : vec_len c.args.lanes.now ≡ length c.args.lanes.now.items = c.args.lanes.now.ok.0 in
    let slice : c.deref_mut.result.now ≡ take (c.len-start.result + c.args.width) c.args.lanes.now.items ++ replicate (c.len-start.result + c.args.width - c.len-start.result) 0 =
    c.deref_mut.ensures.value ∙ c.in_ok-resize.ensures.items
    ∙ ap (λ (n : ℕ). take (c.len-start.result + c.args.width) c.args.lanes.now.items ++
    replicate (c.len-start.result + c.args.width - n) 0) (sym c.len-start.ensures) in
    row_code c.args.op c.args.lanes.now.items c.deref_mut.result.now c.write_gate.new.lanes
    (drop (length c.write_gate.new.lanes) c.resize.new.self.items) c.len-start.result c.args.width
    c.resize.new.self.len c.masks_for.result c.args.a c.args.b
    (c.len-start.ensures ∙ size) c.in_ok-resize.ensures.len slice c.masks_for.ensures c.requires.first c.requires.second c.write_gate.ensures
