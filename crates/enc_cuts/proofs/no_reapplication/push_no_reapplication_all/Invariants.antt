use Rattle.std.proofs.Common.{◌≡◌, ◌++◌, All, length}
use Rattle.enc_cuts.specs.Vars.{HaveVars}
use Rattle.enc_theory.specs.Cuts.{no_reapplication_all}
use Rattle.enc_cuts.proofs.no_reapplication.push_no_reapplication_all.Given as goal

abbrev pub invariant-loop-step : goal.invariant-loop-step
invariant-loop-step l = record {
  vars : l.list.vars ≡ l.initial.list.vars;
  clauses : l.list.clauses ++ no_reapplication_all l.left ≡ l.initial.list.clauses ++ no_reapplication_all l.steps;
  slots : All (HaveVars l.list.vars) l.left;
}

abbrev pub decreases-loop-step : goal.decreases-loop-step
decreases-loop-step l = length l.left
