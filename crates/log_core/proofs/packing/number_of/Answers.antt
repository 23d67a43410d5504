use Rattle.std.proofs.Common.{ℕ, ◌<◌, ◌^◌, subst}
use Rattle.log_core.proofs.packing.number_of.Goals as goal

pub returns-clause-whole : goal.returns-clause-whole
returns-clause-whole c = record {
  some = subst (λ (v : ℕ). 0 < v) c.variable-variable.ensures.value c.variable-variable.ensures.some;
  small = subst (λ (v : ℕ). v < 2 ^ 31) c.variable-variable.ensures.value c.variable-variable.ensures.small;
}
