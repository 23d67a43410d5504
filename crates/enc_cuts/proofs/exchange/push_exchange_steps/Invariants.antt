use Rattle.std.proofs.Common.{◌≡◌, ◌++◌, [], All, length}
use Rattle.clause_core.specs.Clauses.{IsWithin}
use Rattle.enc_cuts.specs.Vars.{HaveVars}
use Rattle.enc_theory.specs.Cuts.{exchange_steps}
use Rattle.enc_cuts.proofs.exchange.push_exchange_steps.Given as goal

abbrev pub invariant-loop-step : goal.invariant-loop-step
invariant-loop-step l = record {
  vars : l.list.vars ≡ l.initial.list.vars;
  clauses : l.list.clauses ++ exchange_steps l.p l.q l.before.items l.left ≡ l.initial.list.clauses ++ exchange_steps l.p l.q [] l.steps;
  before : All (IsWithin l.list.vars) l.before.items;
  slots : All (HaveVars l.list.vars) l.left;
}

abbrev pub decreases-loop-step : goal.decreases-loop-step
decreases-loop-step l = length l.left
