-- Settings of exact synthesis.
use Rattle.std.specs.Prelude.{◌≤◌, ◌<◌}
use Rattle.sat_theory.specs.Limits.{most_conflicts}
use Rattle.chain_theory.specs.Limits.{most_steps}
use Rattle.op_basis.specs.Text.{all_set}
use Rattle.settings.specs.declared.methods.Method.TheVariants.{Ssv}
use Rattle.settings.specs.declared.methods.MethodChoice.TheVariants.{Named}
use Rattle.settings.specs.Limits.{default_conflicts, default_effort, most_effort}
use Rattle.settings.specs.declared.synth.SynthSettings.{SynthSettings}

-- `s.basis` isn't empty, and the numbers are in their ranges
pub record IsInRange (s : SynthSettings) : Type 0 where
  pub basis_from : 0 < s.basis
  pub max_to : s.max ≤ most_steps
  pub conflicts_from : 1 ≤ s.conflicts
  pub conflicts_to : s.conflicts ≤ most_conflicts
  pub effort_to : s.effort ≤ most_effort

-- the defaults
abbrev pub defaults : SynthSettings
defaults = record {
  basis = all_set;
  method = Named Ssv;
  max = most_steps;
  conflicts = default_conflicts;
  effort = default_effort;
}
