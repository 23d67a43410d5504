use Rattle.std.proofs.Common.{◌+◌, ◌≤◌, length, All}
use Rattle.sat_theory.specs.Formula.{Formula}
use Rattle.net_theory.specs.Net.{IsSigBelow}
use Rattle.equiv_theory.specs.Miter.{sinks_rows}
use Rattle.equiv_core.specs.Rows.{numbered, HasRoom, IsAdded}
use Rattle.equiv_core.proofs.miter_rows.push_sinks.Given as goal

abbrev pub invariant-loop-signal : goal.invariant-loop-signal
invariant-loop-signal l = record {
  first : HasRoom l.numberings.0 l.list.vars;
  second : HasRoom l.numberings.1 l.list.vars;
  some : 1 ≤ l.difference;
  room : l.difference + length l.left ≤ l.list.vars + 1;
  signals : All (IsSigBelow l.numberings.0.end) l.left;
  others : All (IsSigBelow l.numberings.1.end) l.right;
  added : (f : Formula) → IsAdded l.list f (sinks_rows (numbered l.numberings.0)
      (numbered l.numberings.1) l.difference l.left l.right) →
      IsAdded l.initial.list f (sinks_rows (numbered l.numberings.0) (numbered l.numberings.1) l.fn.first l.sinks
      l.others);
}

abbrev pub decreases-loop-signal : goal.decreases-loop-signal
decreases-loop-signal l = length l.left
