-- The only subproblem of a size that is searched whole.
use Rattle.std.specs.Prelude.{◌≡◌, ℕ, zero, suc, ◌<◌, [], ◌∷◌, slice_index_or, refl}
use Rattle.std.specs.List.{Contains}
use Rattle.std.proofs.Common.{arith, sym, subst}
use Rattle.chain_theory.specs.Chain.{Chain}
use Rattle.enc_theory.specs.Subproblems.{FitsSubproblem}
use Rattle.enc_theory.specs.declared.subproblem.Subproblem.{Subproblem}
use Rattle.enc_theory.specs.declared.subproblem.Subproblem.TheVariants.{Whole}

-- it is one of the subproblems
pub the_whole : Contains (Whole ∷ []) Whole
the_whole = (0, omega arith, refl)

-- and there is no other
pub only_whole : (subproblem : Subproblem) → Contains (Whole ∷ []) subproblem → subproblem ≡ Whole
only_whole subproblem (i, low, at) = sole subproblem i low at
  where
    sole : (subproblem : Subproblem) (i : ℕ) → i < 1 → slice_index_or (Whole ∷ []) i subproblem ≡ subproblem → subproblem ≡ Whole
    sole subproblem zero low at = sym at
    sole subproblem (suc i) low at = absurd (omega arith)

-- it requires nothing of a chain
pub whole_fits : (subproblem : Subproblem) (c : Chain) → Contains (Whole ∷ []) subproblem → FitsSubproblem subproblem c
unfolding FitsSubproblem
whole_fits subproblem c there = subst (λ (p : Subproblem). FitsSubproblem p c) (sym (only_whole subproblem there)) tt
