-- Flags of unit clauses.
use Rattle.std.proofs.Common.{◌≡◌, ℕ, ◌+◌, ◌*◌, ◌<◌, ◌≤◌, ◌↔◌, ℤ, Bool, true, List, [], ◌∷◌, length, slice_index_or, slice_set, Contains, Some, refl, sym, ap, subst, ◌∙◌, arith}
use Rattle.std.proofs.Math.Logic.{⊎_elim}
use Rattle.std.proofs.lemmas.Bool.{cases_eq}
use Rattle.std.proofs.lemmas.List.{length-set}
use Rattle.std.proofs.lemmas.List.Elements.{All-contains, All-cons, All-nil}
use Rattle.sat_theory.specs.Formula.{variable, IsWithin}
use Rattle.sat_theory.specs.Holding.{with_literal}
use Rattle.cdcl_theory.specs.Codes.{code_of, marked_in}
use Rattle.cdcl_theory.specs.CodeLaws.{code_of-room, marked_in-set, with_literal-old, with_literal-new}
use Rattle.clause_db.specs.Stored.{Stored, live_in, added}
use Rattle.clause_db.specs.StoredLaws.{live_inside, live_added}
use Rattle.clause_db.specs.Sorted.{sorted}
use Rattle.clause_db.specs.SortedLaws.{Contains-sorted, length-sorted}
use Rattle.subsume_core.specs.Units.{IsUnitsOf, AreFlagged, IsFlagged}

-- the flag of a list of one literal is set
pub flagged_set : (lits : List ℤ) (flags new : List Bool) (first : ℤ) → slice_index_or lits 0 first ≡ first →
    code_of first < length flags → new ≡ slice_set flags (code_of first) true → IsFlagged lits flags new
flagged_set lits flags new first is low now = record {
  room = ap length now ∙ length-set flags (code_of first) true;
  kept = λ l is_on. at l ∙ with_literal-old (marked_in flags) first l is_on;
  flagged = λ l e within. at l ∙ with_literal-new (marked_in flags) first l (ap (λ (xs : List ℤ). slice_index_or xs 0 first) (sym e) ∙ is);
}
  where
    at : (l : ℤ) → marked_in new l ≡ with_literal (marked_in flags) first l
    at l = ap (λ (xs : List Bool). marked_in xs l) now ∙ ap (λ (f : ℤ → Bool). f l) (marked_in-set flags first low)

-- Where the unit clauses up to the last id are flagged, all are.
pub flagged_all : (s : Stored) (n : ℕ) (flags : List Bool) → length s.clauses ≤ n → AreFlagged s n flags → IsUnitsOf s flags
flagged_all s n flags all are = record {
  room = are.room;
  flagged = λ id l is. are.flagged id l (let inside : (0 < id) × (id ≤ length s.clauses) = live_inside s id (l ∷ []) is in let high : id ≤ length s.clauses = inside.1 in omega arith) is;
}

-- a list of one literal, which another one has
one_literal : (row : List ℤ) (l : ℤ) → length row ≡ 1 → ((m : ℤ) → Contains row m → Contains (l ∷ []) m) → row ≡ l ∷ []
one_literal [] l long only = absurd (let none : 0 ≡ 1 = long in omega (arith, none))
one_literal (m ∷ []) l long only = ap (λ (x : ℤ). x ∷ []) (All-contains (λ x. x ≡ l) (l ∷ []) m (All-cons (λ x. x ≡ l) l [] refl (All-nil (λ x. x ≡ l))) (only m (0, omega arith, refl)))
one_literal (m ∷ n ∷ ms) l long only = absurd (let more : length (m ∷ n ∷ ms) ≡ 1 = long in omega (arith, more))

one_inside : (vars : ℕ) (lits : List ℤ) (l : ℤ) → lits ≡ l ∷ [] → IsWithin vars lits → code_of l < 2 * vars + 2
one_inside vars lits l is within = code_of-room l vars (All-contains (λ m. variable m ≤ vars) (l ∷ []) l (subst (λ (xs : List ℤ). IsWithin vars xs) is within) (0, omega arith, refl))

-- one clause more is flagged
pub flagged_read : (s : Stored) (n id : ℕ) (row : List ℤ) (old new : List Bool) → id ≡ n + 1 →
    ((clause : List ℤ) → live_in s id ≡ Some clause → length row ≡ length clause) →
    ((clause : List ℤ) → live_in s id ≡ Some clause → (l : ℤ) → Contains row l ↔ Contains clause l) →
    IsWithin s.vars row → IsFlagged row old new → AreFlagged s n old → AreFlagged s id new
flagged_read s n id row old new next long same within flagged are = record {
  room = flagged.room ∙ are.room;
  flagged = λ k l low is. ⊎_elim
      (λ (e : k ≡ id).
      let here : live_in s id ≡ Some (l ∷ []) = subst (λ (i : ℕ). live_in s i ≡ Some (l ∷ [])) e is in
      let one : row ≡ l ∷ [] = one_literal row l (long (l ∷ []) here) (λ m there. (same (l ∷ []) here m).0 there) in
      let room : code_of l < 2 * s.vars + 2 = one_inside s.vars row l one within in
      flagged.flagged l one (omega (arith, room, are.room)))
      (λ (apart : k ≡ id → ⊥). flagged.kept l (are.flagged k l (omega (arith, low, next, apart)) is))
      (cases_eq k id);
}

-- a clause that is added is flagged
pub units_added : (s : Stored) (lits : List ℤ) (old new : List Bool) → IsUnitsOf s old → IsWithin s.vars lits → IsFlagged lits old new → IsUnitsOf (added s lits) new
units_added s lits old new units within flagged = record {
  room = flagged.room ∙ units.room;
  flagged = λ id l is. ⊎_elim
      (λ (last : (id ≡ length s.clauses + 1) × (sorted lits ≡ l ∷ [])).
      let one : lits ≡ l ∷ [] = one_literal lits l (sym (length-sorted lits) ∙ ap length last.1) (λ m there. subst (λ (xs : List ℤ). Contains xs m) last.1 (Contains-sorted lits m there)) in
      let room : code_of l < 2 * s.vars + 2 = one_inside s.vars lits l one within in
      flagged.flagged l one (omega (arith, room, units.room)))
      (λ (before : live_in s id ≡ Some (l ∷ [])). flagged.kept l (units.flagged id l before))
      (live_added s lits id (l ∷ []) is);
}
