use Rattle.std.proofs.Common.{◌-◌, ◌^◌}
use Rattle.sat_theory.specs.Formula.{IsWithin}
use Rattle.solver_tests.proofs.plain.vector.Given as goal

abbrev pub invariant-loop-lit : goal.invariant-loop-lit
invariant-loop-lit l = IsWithin (2 ^ 31 - 1) l.kept.items
