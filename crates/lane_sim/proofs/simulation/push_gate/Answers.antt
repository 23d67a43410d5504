use Rattle.std.proofs.Common.{◌≡◌, ◌∙◌, ◌*◌, ◌<◌, ◌^◌, [], arith, append-nil, length, sym}
use Rattle.lane_sim.specs.LaneLaws.{operand_ends, gate_put}
use Rattle.lane_sim.proofs.simulation.push_gate.Goals as goal

pub push_row-requires-clause-first : goal.push_row-requires-clause-first
push_row-requires-clause-first c =
    let size : length c.args.lanes.now.items ≡ length c.args.nodes.now.keys * c.args.width = sym c.args.lanes.now.ok.0 ∙ c.requires.size in
    operand_ends c.args.nodes.now.keys c.args.width (length c.args.lanes.now.items) c.args.gate.a c.operand-a.result
    (c.operand-a.ensures c.args.nodes.now.keys [] (sym (append-nil c.args.nodes.now.keys)) (omega (arith, size, c.args.lanes.now.ok.0)) c.requires.known.first) (omega (arith, size))

pub push_row-requires-clause-second : goal.push_row-requires-clause-second
push_row-requires-clause-second c =
    let size : length c.args.lanes.now.items ≡ length c.args.nodes.now.keys * c.args.width = sym c.args.lanes.now.ok.0 ∙ c.requires.size in
    operand_ends c.args.nodes.now.keys c.args.width (length c.args.lanes.now.items) c.args.gate.b c.operand-b.result
    (c.operand-b.ensures c.args.nodes.now.keys [] (sym (append-nil c.args.nodes.now.keys)) (omega (arith, size, c.args.lanes.now.ok.0)) c.requires.known.second) (omega (arith, size))

pub returns : goal.returns
returns c =
    let size : length c.args.lanes.now.items ≡ length c.args.nodes.now.keys * c.args.width = sym c.args.lanes.now.ok.0 ∙ c.requires.size in
    let room : length c.args.nodes.now.keys * c.args.width < 2 ^ 64 = omega (arith, size, c.args.lanes.now.ok.0) in
    gate_put c.args.nodes.now.keys c.args.gate c.args.width c.args.lanes.now.items c.push_row.new.lanes.items c.operand-a.result c.operand-b.result
    (c.operand-a.ensures c.args.nodes.now.keys [] (sym (append-nil c.args.nodes.now.keys)) room c.requires.known.first)
    (c.operand-b.ensures c.args.nodes.now.keys [] (sym (append-nil c.args.nodes.now.keys)) room c.requires.known.second)
    c.in_ok-push_row.ensures
