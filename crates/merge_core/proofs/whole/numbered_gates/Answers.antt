use Rattle.std.proofs.Common.{◌+◌, arith}
use Rattle.merge_core.specs.Whole.{numbered_from}
use Rattle.merge_core.specs.WholeLaws.{numbered_more, numbered_end}
use Rattle.merge_core.proofs.whole.numbered_gates.Goals as goal

pub loop-gate-preserved : goal.loop-gate-preserved
loop-gate-preserved c = record {
  numbered = numbered_more c.loop-gate.numbered.items c.push.new.self.items c.loop-gate.node c.loop-gate.left.now
      c.in-Some.rest.now c.in-Some.gate.now (numbered_from (c.args.net.now.sources + 1) c.args.net.now.gates)
      c.in-Some.ensures.cases.0 c.in_ok-push.ensures.items c.loop-gate.invariant.numbered;
  all = omega (arith, c.loop-gate.invariant.all, c.in-Some.ensures.cases.1);
}

pub returns : goal.returns
returns c = numbered_end c.loop-gate.numbered.items c.loop-gate.node c.loop-gate.left.now
    (numbered_from (c.args.net.now.sources + 1) c.args.net.now.gates) c.in_default.ensures.cases
    c.loop-gate.invariant.numbered
