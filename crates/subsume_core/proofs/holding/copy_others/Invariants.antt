use Rattle.std.proofs.Common.{◌≡◌, not, take}
use Rattle.std.specs.List.{filter}
use Rattle.sat_theory.specs.Holding.{among}
use Rattle.subsume_core.proofs.holding.copy_others.Given as goal

abbrev pub invariant-loop-lit : goal.invariant-loop-lit
invariant-loop-lit l = l.kept.items ≡ filter (λ m. not (among l.gone m)) (take l.lit-index l.lits)
