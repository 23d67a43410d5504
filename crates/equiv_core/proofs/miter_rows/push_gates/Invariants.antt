use Rattle.std.proofs.Common.{◌+◌, ◌≤◌, length}
use Rattle.sat_theory.specs.Formula.{Formula}
use Rattle.net_core.specs.Marks.{AreAt}
use Rattle.equiv_theory.specs.Miter.{gates_rows}
use Rattle.equiv_core.specs.Rows.{numbered, HasRoom, IsAdded}
use Rattle.equiv_core.proofs.miter_rows.push_gates.Given as goal

abbrev pub invariant-loop-gate : goal.invariant-loop-gate
invariant-loop-gate l = record {
  room : HasRoom l.numbering l.list.vars;
  some : 1 ≤ l.node;
  end : l.node + length l.left ≤ l.numbering.end;
  stand : AreAt l.node l.left;
  added : (c : Formula) → IsAdded l.list c (gates_rows (numbered l.numbering) l.node l.left) → IsAdded l.initial.list c (gates_rows (numbered l.numbering) l.first l.gates);
}

abbrev pub decreases-loop-gate : goal.decreases-loop-gate
decreases-loop-gate l = length l.left
