-- The literals of each clause in their stored order, the two watched ones first.
use Rattle.std.specs.Prelude.{◌≡◌, ℕ, ◌-◌, ◌⊎◌, ℤ, List, [], ◌∷◌, ◌++◌, map, slice_index_or, slice_set, Bool, if◌then◌else◌, Option, Some, None}
use Rattle.std.specs.List.{swap}
use Rattle.std.specs.List.Sorted.{IsPermutation}
use Rattle.clause_db.specs.declared.watches.WatchedPair.{WatchedPair}
use Rattle.clause_db.specs.Watching.{Watching, pair_of, with_ids}
use Rattle.clause_db.specs.Stored.{Stored}
use Rattle.clause_db.specs.Sorted.{sorted}
use Rattle.clause_db.specs.Blockers.{with_blockers}

-- the literals of each id, and for each literal, by its code, the ids of the clauses that watch it
-- and their blocking literals
pub record Arranged : Type 0 where
  pub arena : List (List ℤ)
  pub lists : List (List ℕ)
  pub rows : List (List ℤ)

-- the literals of an id
abbrev pub block_at : List (List ℤ) → ℕ → List ℤ
block_at arena id = slice_index_or arena (id - 1) []

-- A clause watches its first two literals.
-- Example: of the literals 3, 1, 2 it watches 3 and 1.
abbrev pub watching_of : Arranged → Watching
watching_of a = record { pairs = map pair_of a.arena; lists = a.lists }

-- a clause was added, with its literals in the given order
abbrev pub arranged_more : Arranged → List ℤ → ℕ → Arranged
arranged_more a lits id = record { arena = a.arena ++ lits ∷ []; lists = with_ids a.lists lits id; rows = with_blockers a.rows lits }

-- two literals of an id changed places
abbrev pub exchanged_at : Arranged → ℕ → ℕ → ℕ → Arranged
exchanged_at a id low high = record { arena = slice_set a.arena (id - 1) (swap (block_at a.arena id) low high); lists = a.lists; rows = a.rows }

-- a literal that isn't watched
abbrev pub IsNoneOf : WatchedPair → ℤ → Type 0
IsNoneOf p l = (l ≡ p.first) ⊎ (l ≡ p.second) → ⊥

-- the literals of each id, possibly reordered
pub record ArePermuted (arena new : List (List ℤ)) : Type 0 where
  pub each : (id : ℕ) → IsPermutation (block_at arena id) (block_at new id)

-- The clauses of the live ids, with their literals in the order of their codes. Both lists are equally long.
-- Example: the marks true, false with the literals 3, -2, 1 and none give Some of 1, -2, 3, and None.
unfoldable pub clauses_of : List Bool → List (List ℤ) → List (Option (List ℤ))
clauses_of [] arena = []
clauses_of (live ∷ rest) [] = []
clauses_of (live ∷ rest) (block ∷ arena) = (if live then Some (sorted block) else None) ∷ clauses_of rest arena

-- what contracts see of the clause database
abbrev pub shown : ℕ → List Bool → Arranged → Stored
shown vars live a = record { vars = vars; clauses = clauses_of live a.arena; watches = watching_of a }
