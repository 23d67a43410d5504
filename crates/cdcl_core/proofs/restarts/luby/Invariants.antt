use Rattle.std.proofs.Common.{ℕ, ◌<◌, ◌^◌}
use Rattle.cdcl_core.specs.Luby.{IsLuby, IsPowerUpTo}
use Rattle.cdcl_core.proofs.restarts.luby.Given as goal

abbrev pub invariant-loop-rest : goal.invariant-loop-rest
invariant-loop-rest l = record {
  some : 0 < l.rest;
  small : l.rest < 2 ^ 31;
  power : IsPowerUpTo l.rest l.power;
  back : (member : ℕ) → IsLuby l.rest member → IsLuby l.fn.index member;
}

abbrev pub decreases-loop-rest : goal.decreases-loop-rest
decreases-loop-rest l = l.rest
