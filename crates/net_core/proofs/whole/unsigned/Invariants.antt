use Rattle.std.proofs.Common.{◌≡◌, take, map, false}
use Rattle.net_theory.specs.Expansion.{signed}
use Rattle.net_core.proofs.whole.unsigned.Given as goal

abbrev pub invariant-loop-sig : goal.invariant-loop-sig
invariant-loop-sig l = l.all.items ≡ map (λ a. signed a false) (take l.sig-index l.inputs)
