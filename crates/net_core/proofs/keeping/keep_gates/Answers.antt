use Rattle.std.proofs.Common.{◌≡◌, suc, ◌∙◌, length, ap, arith}
use Rattle.net_theory.specs.declared.data.Gate.{Gate}
use Rattle.net_core.proofs.Evaluations.{first_at, rest_at}
use Rattle.net_core.proofs.DanglingGates.{kept_after-none, kept_after-on, kept_after-off, marked_count-on, marked_count-off}
use Rattle.net_core.proofs.keeping.keep_gates.Goals as goal

pub keep_gate-requires-clause-gate : goal.keep_gate-requires-clause-gate
keep_gate-requires-clause-gate c = first_at _ _ _ _ c.in-Some.ensures.cases.0 c.loop-gate.invariant.stand

pub loop-gate-preserved-then-marks-node : goal.loop-gate-preserved-then-marks-node
loop-gate-preserved-then-marks-node c =
    let size : length c.loop-gate.left.now ≡ suc (length c.in-Some.rest.now) = ap (length {A = Gate}) c.in-Some.ensures.cases.0 in
    record {
      kept = rw c.in_ok-keep_gate.ensures.kept (kept_after-on _ _ _ _ _ _ _ c.in-Some.ensures.cases.0 c.if-marks-node.true ∙ c.loop-gate.invariant.kept);
      stand = rest_at _ _ _ _ c.in-Some.ensures.cases.0 c.loop-gate.invariant.stand;
      marks = omega (arith, size);
      nodes = c.keep_gate.auto.nodes ∙ c.loop-gate.invariant.nodes;
      room = omega (
        arith,
        marked_count-on c.args.marks.now c.loop-gate.node c.loop-gate.left.now c.in-Some.rest.now
            c.in-Some.gate.now c.in-Some.ensures.cases.0 c.if-marks-node.true,
        c.in_ok-keep_gate.ensures.count,
        c.loop-gate.invariant.room,
      );
    }

pub loop-gate-preserved : goal.loop-gate-preserved
loop-gate-preserved c =
    let size : length c.loop-gate.left.now ≡ suc (length c.in-Some.rest.now) = ap (length {A = Gate}) c.in-Some.ensures.cases.0 in
    record {
      kept = kept_after-off _ _ _ _ _ _ _ c.in-Some.ensures.cases.0 c.if-marks-node.false ∙ c.loop-gate.invariant.kept;
      stand = rest_at _ _ _ _ c.in-Some.ensures.cases.0 c.loop-gate.invariant.stand;
      marks = omega (arith, size);
      nodes = c.loop-gate.invariant.nodes;
      room = omega (
        arith,
        marked_count-off c.args.marks.now c.loop-gate.node c.loop-gate.left.now c.in-Some.rest.now
            c.in-Some.gate.now c.in-Some.ensures.cases.0 c.if-marks-node.false,
        c.loop-gate.invariant.room,
      );
    }

pub returns : goal.returns
returns c = kept_after-none _ _ _ _ _ c.in_default.ensures.cases ∙ c.loop-gate.invariant.kept
