use Rattle.std.proofs.Common.{◌≡◌, ◌++◌, All, length}
use Rattle.enc_base.specs.Room.{HasSlots}
use Rattle.enc_theory.specs.Cuts.{used}
use Rattle.enc_cuts.proofs.used.push_used.Given as goal

abbrev pub invariant-loop-step : goal.invariant-loop-step
invariant-loop-step l = record {
  vars : l.list.vars ≡ l.initial.list.vars;
  clauses : l.list.clauses ++ used l.z l.left ≡ l.initial.list.clauses ++ used l.z l.steps;
  slots : All (HasSlots l.z l.list.vars) l.left;
}

abbrev pub decreases-loop-step : goal.decreases-loop-step
decreases-loop-step l = length l.left
