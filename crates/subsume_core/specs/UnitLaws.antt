-- Deleting clauses keeps the flags valid.
use Rattle.std.specs.Prelude.{◌≡◌, ℕ, ◌+◌, ◌*◌, ◌≤◌, ℤ, Bool, List, [], ◌∷◌, Contains, All, Some}
use Rattle.std.proofs.Common.{◌∙◌, ap, sym}
use Rattle.std.proofs.lemmas.List.Elements.{All-contains}
use Rattle.sat_theory.specs.Formula.{variable, IsWithin}
use Rattle.clause_db.specs.Stored.{Stored, live_in}
use Rattle.subsume_core.specs.Units.{IsUnitsOf}

-- where every live clause was live before,
pub units_fewer : (a b : Stored) (flags : List Bool) → b.vars ≡ a.vars → ((id : ℕ) (clause : List ℤ) → live_in b id ≡ Some clause → live_in a id ≡ Some clause) → IsUnitsOf a flags → IsUnitsOf b flags
units_fewer a b flags vars fewer units = record {
  room = units.room ∙ ap (λ (n : ℕ). 2 * n + 2) (sym vars);
  flagged = λ id l is. units.flagged id l (fewer id (l ∷ []) is);
}

-- Literals of a list over the variables are over them.
pub within_contained : (n : ℕ) (lits inner : List ℤ) → All (Contains lits) inner → IsWithin n lits → IsWithin n inner
within_contained n lits inner inside within = λ i d low. All-contains (λ (l : ℤ). variable l ≤ n) lits _ within (inside i d low)
