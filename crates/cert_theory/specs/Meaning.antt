-- What a verdict says about chains.
use Rattle.std.specs.Prelude.{ℕ, ◌≤◌}
use Rattle.chain_theory.specs.Operator.{Basis}
use Rattle.chain_theory.specs.Specification.{Specification}
use Rattle.chain_theory.specs.Agreement.{HasChain, NoneBelow, IsMinimum}
use Rattle.cert_theory.specs.declared.data.Verdict.{Verdict}
use Rattle.cert_theory.specs.declared.data.Verdict.TheVariants.{Minimum, NoChain, Bounded, Open}

-- Minimum r: r is the minimum number of steps. NoChain x: no chain of at most x steps implements the
-- specification. Bounded low r: a chain of r steps does, and none of fewer than low. Open low: none of fewer
-- than low does.
abbrev pub Means : Specification → Basis → Verdict → Type 0
Means s basis (Minimum r) = IsMinimum s basis r
Means s basis (NoChain x) = (q : ℕ) → q ≤ x → HasChain s basis q → ⊥
Means s basis (Bounded low r) = HasChain s basis r × NoneBelow s basis low
Means s basis (Open low) = NoneBelow s basis low
