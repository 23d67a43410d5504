-- Clauses by their ids, and their watched literals. Contracts see the literals of a clause in the order of
-- their codes, whatever the stored order is.
use Rattle.std.specs.Prelude.{◌≡◌, ◌≢◌, ℕ, ◌+◌, ◌-◌, ◌*◌, ◌≤◌, ◌==◌, ◌⊎◌, if◌then◌else◌, ℤ, List, [], ◌∷◌, ◌++◌, length, slice_get, replicate, Contains, AllPairs, Option, Some, None}
use Rattle.std.specs.Option.{option_flatten}
use Rattle.sat_theory.specs.Formula.{IsClause, IsWithin}
use Rattle.clause_db.specs.declared.watches.WatchedPair.{WatchedPair}
use Rattle.clause_db.specs.Watching.{Watching, list_of, pair_at, watching_more, watching_moved, HasRoom}
use Rattle.clause_db.specs.Sorted.{sorted}

-- The ids are 1, 2 and so on.
-- Example: of the entries (1, 2), none, (-2) the id 3 has the clause -2, and 2 and 4 have none.
abbrev pub live_at : List (Option (List ℤ)) → ℕ → Option (List ℤ)
live_at clauses id = if id == 0 then None else option_flatten (slice_get clauses (id - 1))

-- the variables of the formula, an entry for each id given so far (its clause, if that is live), and the
-- watched literals
pub record Stored : Type 0 where
  pub vars : ℕ
  pub clauses : List (Option (List ℤ))
  pub watches : Watching

abbrev pub live_in : Stored → ℕ → Option (List ℤ)
live_in s id = live_at s.clauses id

-- the clause with this id is live and has at least two literals
pub record IsLong (s : Stored) (id : ℕ) : Type 0 where
  pub clause : List ℤ
  pub is_live : live_in s id ≡ Some clause
  pub long : 2 ≤ length clause

-- The clause with this id is live, has at least two literals, and watches l.
pub record Watches (s : Stored) (id : ℕ) (l : ℤ) : Type 0 where
  pub clause : List ℤ
  pub is_live : live_in s id ≡ Some clause
  pub long : 2 ≤ length clause
  pub watched : (l ≡ (pair_at s.watches id).first) ⊎ (l ≡ (pair_at s.watches id).second)

-- two different literals of a clause
pub record IsPair (clause : List ℤ) (p : WatchedPair) : Type 0 where
  pub first : Contains clause p.first
  pub second : Contains clause p.second
  pub differ : p.first ≢ p.second

-- All live clauses are clauses over the variables, and each of at least two literals watches two of
-- them: it is in their watch lists, once, and in no other.
pub record IsStored (s : Stored) : Type 0 where
  pub clauses : (id : ℕ) (clause : List ℤ) → live_in s id ≡ Some clause → IsClause clause
  pub variables : (id : ℕ) (clause : List ℤ) → live_in s id ≡ Some clause → IsWithin s.vars clause
  pub few : length s.clauses ≤ 4000000000
  pub pairs_room : length s.watches.pairs ≡ length s.clauses
  pub room : HasRoom s.vars s.watches
  pub pairs : (id : ℕ) (clause : List ℤ) → live_in s id ≡ Some clause → 2 ≤ length clause → IsPair clause (pair_at s.watches id)
  pub listed : (l : ℤ) (id : ℕ) → Watches s id l → Contains (list_of s.watches l) id
  pub only : (l : ℤ) (id : ℕ) → Contains (list_of s.watches l) id → Watches s id l
  pub once : (l : ℤ) → AllPairs (λ a b. a ≢ b) (list_of s.watches l)

-- no clause
abbrev pub none_stored : ℕ → Stored
none_stored vars = record { vars = vars; clauses = []; watches = record { pairs = []; lists = replicate (2 * vars + 2) [] } }

-- A clause is added under the next id, and watches its first two literals.
abbrev pub added : Stored → List ℤ → Stored
added s lits = record { vars = s.vars; clauses = s.clauses ++ Some (sorted lits) ∷ []; watches = watching_more s.watches lits (length s.clauses + 1) }

-- several clauses are added one after another
unfoldable pub all_added : Stored → List (List ℤ) → Stored
all_added s [] = s
all_added s (c ∷ cs) = all_added (added s c) cs

-- the clause with this id watches `to` instead of `from`
abbrev pub rewatched : Stored → ℕ → ℤ → ℤ → ℕ → Stored
rewatched s id from to index = record { vars = s.vars; clauses = s.clauses; watches = watching_moved s.watches id from to index }
