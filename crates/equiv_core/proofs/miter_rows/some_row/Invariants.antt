use Rattle.std.proofs.Common.{◌≡◌, ◌-◌, map, true}
use Rattle.std.specs.List.{range_with_len}
use Rattle.clause_core.specs.declared.raw.RawLit.TheVariants.{Var}
use Rattle.equiv_core.proofs.miter_rows.some_row.Given as goal

abbrev pub invariant-loop-variable : goal.invariant-loop-variable
invariant-loop-variable l = record {
  done : l.row.items ≡ map (λ x. Var x true) (range_with_len l.difference (l.variable - l.difference));
}
