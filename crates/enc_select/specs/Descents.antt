-- Clauses "if this operand is k, that one isn't lower than k": what ordered operands and co-lexicographic order
-- have in common.
use Rattle.std.specs.Prelude.{ℕ, ℤ, false, List, [], ◌∷◌}
use Rattle.std.specs.List.{flat_map}
use Rattle.clause_core.specs.declared.raw.RawLit.TheVariants.{Var}
use Rattle.clause_core.specs.Clauses.{written}
use Rattle.enc_theory.specs.declared.data.Side.{Side}
use Rattle.enc_theory.specs.declared.data.Dimensions.{Dimensions}
use Rattle.enc_theory.specs.Select.{choice_var, below}

-- "the operand of step i isn't k, or the other one, of step m, isn't l"
unfoldable pub descent : Dimensions → Side → ℕ → Side → ℕ → ℕ → ℕ → List (List ℤ)
descent z side i other m k l = written (Var (choice_var z side i k) false ∷ Var (choice_var z other m l) false ∷ [])

-- for each l below k
unfoldable pub descents_from : Dimensions → Side → ℕ → Side → ℕ → ℕ → List (List ℤ)
descents_from z side i other m k = flat_map (descent z side i other m k) (below k)

-- for each k below i
unfoldable pub descents : Dimensions → Side → ℕ → Side → ℕ → List (List ℤ)
descents z side i other m = flat_map (descents_from z side i other m) (below i)
