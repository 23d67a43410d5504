-- The occurrence index.
use Rattle.std.specs.Prelude.{◌≡◌, ℕ, ◌⊎◌, ℤ, Bool, true, not, ◌==◌, is_some, List, [], ◌∷◌, ◌++◌, slice_set, length, Any, All, Contains, slice_index_or, Option, Some}
use Rattle.sat_theory.specs.State.{is_listed}
use Rattle.cnf_core.specs.Codes.{code_of}
use Rattle.lrat_check.specs.declared.index.Entry.{Entry}

-- whether a live clause has the id
abbrev pub is_live : (ℕ → Option (List ℤ)) → ℕ → Bool
is_live live id = is_some (live id)

-- lists of entries by the codes of literals, and a list of the ids that are in none of them
pub record Lists : Type 0 where
  pub heads : List (List Entry)
  pub others : List ℕ

abbrev pub entries_of : Lists → ℤ → List Entry
entries_of index l = slice_index_or index.heads (code_of l) []

-- one more entry in a list
abbrev pub with_entry : List (List Entry) → ℕ → Entry → List (List Entry)
with_entry heads place e = slice_set heads place (slice_index_or heads place [] ++ e ∷ [])

-- an entry has the id of a clause, and one of its literals
pub record IsEntryOf (id : ℕ) (clause : List ℤ) (e : Entry) : Type 0 where
  pub own : e.id ≡ id
  pub its : Contains clause e.other

-- one of the entries is of the clause
unfoldable pub IsListed : List Entry → ℕ → List ℤ → Type 0
IsListed entries id clause = Any (IsEntryOf id clause) entries

-- a clause has an entry in the list of one of its literals, or its id is among the others
unfoldable pub IsFound : Lists → ℕ → List ℤ → Type 0
IsFound index id clause = Any (λ l. IsListed (entries_of index l) id clause) clause ⊎ (is_listed index.others id ≡ true)

-- every clause that was found before is still found
pub record KeepsFound (old new : Lists) : Type 0 where
  pub each : (id : ℕ) (clause : List ℤ) → IsFound old id clause → IsFound new id clause

-- every live clause that was found before is still found
pub record KeepsLive (live : ℕ → Option (List ℤ)) (old new : Lists) : Type 0 where
  pub each : (id : ℕ) (clause : List ℤ) → is_live live id ≡ true → IsFound old id clause → IsFound new id clause

-- an entry has another id
abbrev pub has_other_id : ℕ → Entry → Bool
has_other_id id e = not (e.id == id)

-- no list loses an entry, except the entries with one id
pub record DropsEntries (gone : ℕ) (old new : List (List Entry)) : Type 0 where
  pub each : (place id : ℕ) (clause : List ℤ) → (id ≡ gone → ⊥) → IsListed (slice_index_or old place []) id clause → IsListed (slice_index_or new place []) id clause
  pub whole : length new ≡ length old

-- all live clauses are found
pub record IsIndexed (live : ℕ → Option (List ℤ)) (index : Lists) : Type 0 where
  pub each : (id : ℕ) (clause : List ℤ) → live id ≡ Some clause → IsFound index id clause

unfoldable pub HasLiteral : List ℤ → ℤ → Type 0
HasLiteral lits l = Contains lits l

-- the id is that of a live clause that has all its literals in a list
pub record IsInside (live : ℕ → Option (List ℤ)) (lits : List ℤ) (id : ℕ) : Type 0 where
  pub clause : List ℤ
  pub is_live : live id ≡ Some clause
  pub inside : All (HasLiteral lits) clause

-- one of the ids is that of a live clause that has all its literals in a list
unfoldable pub NamesInside : (ℕ → Option (List ℤ)) → List ℤ → List ℕ → Type 0
NamesInside live lits ids = Any (IsInside live lits) ids

-- the entry has a literal of a list, and the id of a live clause with all its literals in the list
pub record IsInsideBy (live : ℕ → Option (List ℤ)) (lits : List ℤ) (e : Entry) : Type 0 where
  pub other : HasLiteral lits e.other
  pub named : IsInside live lits e.id

-- one of the entries does
unfoldable pub EntersInside : (ℕ → Option (List ℤ)) → List ℤ → List Entry → Type 0
EntersInside live lits entries = Any (IsInsideBy live lits) entries
