-- Settings of netlist improvement.
use Rattle.std.specs.Prelude.{◌≤◌, ◌<◌, false}
use Rattle.op_basis.specs.Text.{all_set}
use Rattle.settings.specs.declared.methods.Method.TheVariants.{Ssv}
use Rattle.sat_theory.specs.Limits.{most_conflicts}
use Rattle.settings.specs.Limits.{default_conflicts, most_gates_of_window, most_rounds, most_effort, most_seed}
use Rattle.settings.specs.declared.improve.ImproveSettings.{ImproveSettings}

-- `s.basis` isn't empty, and the numbers are in their ranges
pub record IsInRange (s : ImproveSettings) : Type 0 where
  pub basis_from : 0 < s.basis
  pub cap_to : s.cap ≤ most_gates_of_window
  pub rounds_from : 1 ≤ s.rounds
  pub rounds_to : s.rounds ≤ most_rounds
  pub conflicts_from : 1 ≤ s.conflicts
  pub conflicts_to : s.conflicts ≤ most_conflicts
  pub effort_to : s.effort ≤ most_effort
  pub seed_to : s.seed ≤ most_seed

-- the defaults
abbrev pub defaults : ImproveSettings
defaults = record {
  basis = all_set;
  method = Ssv;
  cap = 5;
  rounds = 1000;
  conflicts = default_conflicts;
  observe = false;
  effort = 0;
  seed = 1;
}
