use Rattle.std.proofs.Common.{◌≡◌, ◌++◌, ◌∷◌, take}
use Rattle.std.specs.Prelude.{decimal}
use Rattle.std.specs.List.{flat_map}
use Rattle.cert_theory.proofs.fence_names.push_levels.Given as goal

abbrev pub invariant-loop-size : goal.invariant-loop-size
invariant-loop-size l = l.text.items ≡ l.initial.text.items ++ flat_map (λ size. 32 ∷ decimal size) (take l.size-index l.levels)
