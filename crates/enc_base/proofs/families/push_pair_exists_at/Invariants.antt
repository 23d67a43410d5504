use Rattle.std.proofs.Common.{◌≡◌, map, take, All}
use Rattle.enc_theory.specs.Families.{chosen}
use Rattle.clause_core.specs.Clauses.{IsWithin}
use Rattle.enc_base.proofs.families.push_pair_exists_at.Given as goal

abbrev pub invariant-loop-slot : goal.invariant-loop-slot
invariant-loop-slot l = record {
  same : l.raws.items ≡ map chosen (take l.slot-index l.step.slots);
  within : All (IsWithin l.list.vars) l.raws.items;
}
