-- Deletion of a clause: its id leaves the watch lists that it was in.
use Rattle.std.specs.Prelude.{◌≡◌, ℕ, ◌-◌, ◌<◌, ℤ, pos, List, [], length, slice_index_or, slice_set, None}
use Rattle.std.specs.List.{swap_remove}
use Rattle.cdcl_theory.specs.Codes.{code_of}
use Rattle.clause_db.specs.Watching.{watch_list_in, list_of, no_pair}
use Rattle.clause_db.specs.Blockers.{row_of, with_row}
use Rattle.clause_db.specs.Arranging.{Arranged}
use Rattle.clause_db.specs.Stored.{Stored, Watches}

-- An id was removed from a list; the last one took its place.
pub record HasLeft (id : ℕ) (old new : List ℕ) : Type 0 where
  pub index : ℕ
  pub inside : index < length old
  pub at_index : slice_index_or old index 0 ≡ id
  pub is : new ≡ swap_remove old index 0

-- The clause with this id was deleted: its entry is empty, the id is removed from the watch lists of the
-- clause, its pair is that of no literals, and everything else is unchanged.
-- Example: with the clauses 1: 1, 2 and 2: 1, 3 and 3: 1, 4, deleting the first one turns the list 1, 2, 3 of
-- the literal 1 into 3, 2.
pub record IsDeleted (id : ℕ) (old new : Stored) : Type 0 where
  pub vars : new.vars ≡ old.vars
  pub clauses : new.clauses ≡ slice_set old.clauses (id - 1) None
  pub pairs : new.watches.pairs ≡ slice_set old.watches.pairs (id - 1) no_pair
  pub room : length new.watches.lists ≡ length old.watches.lists
  pub left : (l : ℤ) → Watches old id l → HasLeft id (list_of old.watches l) (list_of new.watches l)
  pub others : (l : ℤ) → (Watches old id l → ⊥) → list_of new.watches l ≡ list_of old.watches l

-- the watch lists without the entry at an index of a literal's list, and the rows without its blocking
-- literal
abbrev pub lists_left : List (List ℕ) → ℤ → ℕ → List (List ℕ)
lists_left lists l index = slice_set lists (code_of l) (swap_remove (watch_list_in lists l) index 0)

abbrev pub rows_left : List (List ℤ) → ℤ → ℕ → List (List ℤ)
rows_left rows l index = with_row rows l (swap_remove (row_of rows l) index (pos 1))

abbrev pub arranged_left : Arranged → ℤ → ℕ → Arranged
arranged_left a l index = record { arena = a.arena; lists = lists_left a.lists l index; rows = rows_left a.rows l index }

-- the literals of an id were emptied
abbrev pub arranged_without : Arranged → ℕ → Arranged
arranged_without a id = record { arena = slice_set a.arena (id - 1) []; lists = a.lists; rows = a.rows }
