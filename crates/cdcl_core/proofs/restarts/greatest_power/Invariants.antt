use Rattle.std.proofs.Common.{◌≡◌, ℕ, ◌<◌, ◌≤◌, ◌-◌, ◌^◌}
use Rattle.cdcl_core.proofs.restarts.greatest_power.Given as goal

abbrev pub invariant-loop-power : goal.invariant-loop-power
invariant-loop-power l = record {
  some : 0 < l.power;
  low : l.power ≤ l.number;
  is : (k : ℕ) × (l.power ≡ 2 ^ k);
}

abbrev pub decreases-loop-power : goal.decreases-loop-power
decreases-loop-power l = l.number - l.power
