-- Each entry of a watch list has a blocking literal, one of its clause: while it is true, the
-- clause needs no visit.
use Rattle.std.specs.Prelude.{◌≡◌, ℕ, ◌+◌, ◌*◌, ◌<◌, if◌then◌else◌, nat_lt, ℤ, pos, List, [], ◌∷◌, ◌++◌, length, slice_index_or, slice_set, Contains, Some}
use Rattle.std.specs.List.{swap_remove}
use Rattle.std.specs.Ordering.{int_eq}
use Rattle.cdcl_theory.specs.Codes.{code_of}
use Rattle.clause_db.specs.declared.watches.WatchedPair.{WatchedPair}
use Rattle.clause_db.specs.Watching.{list_of, pair_of}
use Rattle.clause_db.specs.Stored.{Stored, live_in}
use Rattle.clause_db.specs.declared.lists.Watch.{Watch}

-- the blocking literals of a literal's watch list
unfoldable pub row_of : List (List ℤ) → ℤ → List ℤ
row_of rows l = slice_index_or rows (code_of l) []

-- the rows with that of l replaced
abbrev pub with_row : List (List ℤ) → ℤ → List ℤ → List (List ℤ)
with_row rows l row = slice_set rows (code_of l) row

-- the blocking literal at an index in the row of a literal
abbrev pub blocker_at : List (List ℤ) → ℤ → ℕ → ℤ
blocker_at rows l k = slice_index_or (row_of rows l) k (pos 1)

-- a blocking literal appended to a literal's row
abbrev pub with_blocker : List (List ℤ) → ℤ → ℤ → List (List ℤ)
with_blocker rows l m = with_row rows l (row_of rows l ++ m ∷ [])

-- each of a clause's first two literals becomes the blocking literal in the row of the other, if it
-- has two
abbrev pub with_blockers : List (List ℤ) → List ℤ → List (List ℤ)
with_blockers rows lits = if nat_lt (length lits) 2 then rows else with_blocker (with_blocker rows (pair_of lits).first (pair_of lits).second) (pair_of lits).second (pair_of lits).first

-- the other literal of a pair
abbrev pub other_watch : WatchedPair → ℤ → ℤ
other_watch p l = if int_eq p.first l then p.second else p.first

-- A watch is moved: the blocking literal at an index is removed from the row of `from`, and another one is
-- appended to the row of `to`.
abbrev pub rows_moved : List (List ℤ) → ℤ → ℤ → ℕ → ℤ → List (List ℤ)
rows_moved rows from to index m = with_row (with_blocker rows to m) from (swap_remove (row_of rows from) index (pos 1))

-- l is a literal of the clause with this id, if that is live
abbrev pub IsLiteralOf : Stored → ℕ → ℤ → Type 0
IsLiteralOf s id l = (clause : List ℤ) → live_in s id ≡ Some clause → Contains clause l

-- each blocking literal of a watch list is a literal of its clause
abbrev pub AreBeside : Stored → ℤ → List Watch → Type 0
AreBeside s l watches = (index : ℕ) (d : Watch) → index < length watches → IsLiteralOf s (slice_index_or (list_of s.watches l) index 0) (slice_index_or watches index d).blocker

-- Each literal has a row as long as its watch list, and each blocking literal is a literal of its
-- clause.
pub record AreBlockers (s : Stored) (rows : List (List ℤ)) : Type 0 where
  pub room : length rows ≡ 2 * s.vars + 2
  pub long : (l : ℤ) → length (row_of rows l) ≡ length (list_of s.watches l)
  pub there : (l : ℤ) (k : ℕ) → k < length (list_of s.watches l) → IsLiteralOf s (slice_index_or (list_of s.watches l) k 0) (blocker_at rows l k)
