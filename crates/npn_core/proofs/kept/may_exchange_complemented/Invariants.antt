use Rattle.std.proofs.Common.{◌≡◌, ℕ, ◌<◌, false}
use Rattle.npn_strong.specs.Cut.{kept_by}
use Rattle.npn_core.proofs.kept.may_exchange_complemented.Given as goal

abbrev pub invariant-loop-k : goal.invariant-loop-k
invariant-loop-k l = (k : ℕ) → k < l.k → kept_by l.spec l.p l.q k ≡ false
