use Rattle.std.proofs.Common.{◌≡◌, ◌+◌, ◌*◌, ◌≤◌, ◌++◌, All, length}
use Rattle.enc_base.specs.Room.{HasRoom, HasSlots}
use Rattle.enc_strong.specs.Room.{HasRows}
use Rattle.strong_theory.specs.Strong.{differences}
use Rattle.enc_strong.proofs.differences.push_differences.Given as goal

abbrev pub invariant-loop-edge : goal.invariant-loop-edge
invariant-loop-edge l = record {
  vars : l.list.vars ≡ l.initial.list.vars;
  clauses : l.list.clauses ++ differences l.z l.steps l.next l.left ≡ l.initial.list.clauses ++ differences l.z l.steps l.fn.before l.edges;
  room : HasRoom l.z l.list.vars;
  slots : All (HasSlots l.z l.list.vars) l.steps;
  rows : All (HasRows l.z) l.left;
  few : l.next + length l.left * l.z.r ≤ l.list.vars;
}

abbrev pub decreases-loop-edge : goal.decreases-loop-edge
decreases-loop-edge l = length l.left
