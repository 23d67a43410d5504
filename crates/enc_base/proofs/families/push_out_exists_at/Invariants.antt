use Rattle.std.proofs.Common.{◌≡◌, ◌+◌, ◌-◌, map, All}
use Rattle.std.specs.List.{range_with_len}
use Rattle.enc_theory.specs.Families.{driver}
use Rattle.clause_core.specs.Clauses.{IsWithin}
use Rattle.enc_base.proofs.families.push_out_exists_at.Given as goal

abbrev pub invariant-loop-i : goal.invariant-loop-i
invariant-loop-i l = record {
  same : l.raws.items ≡ map (driver l.z l.h) (range_with_len (l.z.n + 1) (l.i - (l.z.n + 1)));
  within : All (IsWithin l.list.vars) l.raws.items;
}
