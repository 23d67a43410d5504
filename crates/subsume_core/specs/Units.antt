-- Which literals are unit clauses.
use Rattle.std.specs.Prelude.{◌≡◌, ℕ, ◌+◌, ◌*◌, ◌<◌, ◌≤◌, ℤ, Bool, true, List, [], ◌∷◌, length, Some}
use Rattle.cdcl_theory.specs.Codes.{code_of, marked_in}
use Rattle.clause_db.specs.Stored.{Stored, live_in}

-- There is a flag for each literal, and that of each live unit clause is set.
-- Example: with the clauses 1, 2 and -2 the flag of -2 is set, and others may be.
pub record IsUnitsOf (s : Stored) (flags : List Bool) : Type 0 where
  pub room : length flags ≡ 2 * s.vars + 2
  pub flagged : (id : ℕ) (l : ℤ) → live_in s id ≡ Some (l ∷ []) → marked_in flags l ≡ true

-- the same for the clauses with ids up to n
pub record AreFlagged (s : Stored) (n : ℕ) (flags : List Bool) : Type 0 where
  pub room : length flags ≡ 2 * s.vars + 2
  pub flagged : (id : ℕ) (l : ℤ) → id ≤ n → live_in s id ≡ Some (l ∷ []) → marked_in flags l ≡ true

-- No flag was cleared, and if a list has one literal, that one's flag is set, where there is one.
pub record IsFlagged (lits : List ℤ) (old new : List Bool) : Type 0 where
  pub room : length new ≡ length old
  pub kept : (l : ℤ) → marked_in old l ≡ true → marked_in new l ≡ true
  pub flagged : (l : ℤ) → lits ≡ l ∷ [] → code_of l < length old → marked_in new l ≡ true
