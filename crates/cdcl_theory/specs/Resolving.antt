-- Clauses derived from a conflict by resolution with reasons.
use Rattle.std.specs.Prelude.{◌≡◌, ℕ, ◌<◌, ℤ, Bool, true, List, reverse, Option}
use Rattle.sat_theory.specs.Holding.{HintsHold}
use Rattle.cdcl_theory.specs.Propagation.{IsFalsifiedUpTo}

-- The hints hold from every set of false literals that includes `kept`.
pub record IsDerived (live : ℕ → Option (List ℤ)) (falsified_at : ℤ → ℕ) (kept : ℤ → Bool) (hints : List ℕ) : Type 0 where
  pub from : (set : ℤ → Bool) → ((l : ℤ) → kept l ≡ true → set l ≡ true) → ((l : ℤ) → set l ≡ true → 0 < falsified_at l) → HintsHold live set hints

-- The clause of the kept literals, which are false at positions up to p, follows by the ids as hints. The ids
-- are in the order of the analysis, from the conflict on; a log has them in reverse.
pub record IsResolvent (live : ℕ → Option (List ℤ)) (falsified_at : ℤ → ℕ) (p : ℕ) (kept : ℤ → Bool) (ids : List ℕ) : Type 0 where
  pub below : (m : ℤ) → kept m ≡ true → IsFalsifiedUpTo falsified_at p m
  pub derived : IsDerived live falsified_at kept (reverse ids)
