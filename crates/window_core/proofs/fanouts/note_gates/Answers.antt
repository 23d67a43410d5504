use Rattle.std.proofs.Common.{◌+◌, length, ap, arith}
use Rattle.net_theory.specs.declared.data.Gate.{Gate}
use Rattle.window_core.specs.Noting.{AreNoted}
use Rattle.window_core.specs.NotingLaws.{list_code, operands_before, some_nodes, noted_all}
use Rattle.window_core.proofs.fanouts.note_gates.Goals as goal

pub loop-i-preserved : goal.loop-i-preserved
loop-i-preserved c =
    list_code c.args.net.now c.gates-gates.result.now c.loop-i.i c.index-gates-i.result
    (c.sources-first.result + 1 + c.loop-i.i) c.sources-first.result c.loop-i.last c.note_gate-pair.ensures.noted.0
    c.note_gate-pair.new.last c.loop-i.earlier.items c.push.new.self.items c.note_gate-pair.result
    c.gates-gates.ensures.net c.gates-gates.ensures.gates c.loop-i-test.true c.index-gates-i.is
    c.sources-first.ensures.sources (omega (
      arith,
      ap (length {A = Gate}) c.gates-gates.ensures.gates,
      c.gates-gates.ensures.net.nodes,
      c.loop-i-test.true,
    )) c.note_gate-pair.ensures.first
    c.note_gate-pair.ensures.second c.note_gate-pair.ensures.noted.1 c.note_gate-pair.ensures.noted.2
    c.in_ok-push.ensures.items c.loop-i.invariant

pub note_gate-pair-requires-clause-some : goal.note_gate-pair-requires-clause-some
note_gate-pair-requires-clause-some c = some_nodes c.args.net.now c.loop-i.last c.loop-i.invariant.noted.size

pub note_gate-pair-requires-clause-first : goal.note_gate-pair-requires-clause-first
note_gate-pair-requires-clause-first c =
    (operands_before c.args.net.now c.gates-gates.result.now c.loop-i.i c.index-gates-i.result c.loop-i.last
    c.gates-gates.ensures.net c.gates-gates.ensures.gates c.loop-i-test.true c.index-gates-i.is
    c.loop-i.invariant.noted.size).0

pub note_gate-pair-requires-clause-second : goal.note_gate-pair-requires-clause-second
note_gate-pair-requires-clause-second c =
    (operands_before c.args.net.now c.gates-gates.result.now c.loop-i.i c.index-gates-i.result c.loop-i.last
    c.gates-gates.ensures.net c.gates-gates.ensures.gates c.loop-i-test.true c.index-gates-i.is
    c.loop-i.invariant.noted.size).1

pub returns : goal.returns
returns c =
    let all : AreNoted c.args.net.now (length c.args.net.now.gates) c.loop-i.last c.loop-i.earlier.items =
    noted_all c.args.net.now c.gates-gates.result.now c.loop-i.i c.loop-i.last c.loop-i.earlier.items c.gates-gates.ensures.gates c.loop-i-test.false c.loop-i.auto.i-end c.loop-i.invariant in
    record { size = all.size; each = all.each }
