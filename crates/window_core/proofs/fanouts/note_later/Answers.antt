use Rattle.std.proofs.Common.{◌+◌, ◌-◌, length, ap, arith}
use Rattle.net_theory.specs.declared.data.Gate.{Gate}
use Rattle.window_core.specs.AfterLaws.{after_code}
use Rattle.window_core.proofs.fanouts.note_later.Goals as goal

pub loop-taken-preserved : goal.loop-taken-preserved
loop-taken-preserved c =
    after_code c.args.net.now c.gates-gates.result.now c.loop-taken.taken c.index-gates-i.result
    (c.sources-start.result + 1 + (length c.gates-gates.result.now - (c.loop-taken.taken + 1)))
    c.sources-start.result c.loop-taken.first c.note_gate-pair.ensures.noted.0 c.note_gate-pair.new.last
    c.loop-taken.later.items c.push.new.self.items c.note_gate-pair.result
    c.gates-gates.ensures.net c.gates-gates.ensures.gates c.loop-taken-test.true c.index-gates-i.is
    c.sources-start.ensures.sources (omega (
      arith,
      ap (length {A = Gate}) c.gates-gates.ensures.gates,
      c.gates-gates.ensures.net.nodes,
      c.loop-taken-test.true,
    )) c.note_gate-pair.ensures.first
    c.note_gate-pair.ensures.second c.note_gate-pair.ensures.noted.1 c.note_gate-pair.ensures.noted.2
    c.in_ok-push.ensures.items c.loop-taken.invariant
