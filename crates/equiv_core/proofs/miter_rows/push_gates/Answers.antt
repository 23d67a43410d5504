use Rattle.std.proofs.Common.{◌≡◌, suc, ap, length, arith, subst, sym}
use Rattle.net_theory.specs.declared.data.Gate.{Gate}
use Rattle.equiv_core.specs.Rows.{HasRoom}
use Rattle.equiv_core.specs.RowLaws.{gate_at, gates_after, gates_more, gates_none}
use Rattle.equiv_core.proofs.miter_rows.push_gates.Goals as goal

pub push_gate-requires-clause-gate : goal.push_gate-requires-clause-gate
push_gate-requires-clause-gate c = gate_at _ _ _ _ c.in-Some.ensures.cases.0 c.loop-gate.invariant.stand

pub loop-gate-preserved : goal.loop-gate-preserved
loop-gate-preserved c =
    let size : length c.loop-gate.left.now ≡ suc (length c.in-Some.rest.now) = ap (length {A = Gate}) c.in-Some.ensures.cases.0 in
    record {
      room = subst (HasRoom c.args.numbering) (sym c.in_ok-push_gate.ensures.vars) c.loop-gate.invariant.room;
      some = omega arith;
      end = omega (arith, size, c.loop-gate.invariant.end);
      stand = gates_after _ _ _ _ c.in-Some.ensures.cases.0 c.loop-gate.invariant.stand;
      added = λ f more. c.loop-gate.invariant.added f (gates_more c.args.numbering c.loop-gate.node _ _ _ _ _ f c.in-Some.ensures.cases.0 c.in_ok-push_gate.ensures more);
    }

pub returns : goal.returns
returns c = c.loop-gate.invariant.added c.loop-gate.list (gates_none c.args.numbering c.loop-gate.node c.loop-gate.left.now c.loop-gate.list c.in_default.ensures.cases)
