-- The watched literals: two for each clause of at least two literals.
use Rattle.std.specs.Prelude.{◌≡◌, ℕ, ◌+◌, ◌-◌, ◌*◌, if◌then◌else◌, nat_lt, ℤ, pos, List, [], ◌∷◌, ◌++◌, length, slice_index_or, slice_set}
use Rattle.std.specs.List.{swap_remove}
use Rattle.std.specs.Ordering.{int_eq}
use Rattle.cdcl_theory.specs.Codes.{code_of}
use Rattle.clause_db.specs.declared.watches.WatchedPair.{WatchedPair}

-- the watched pair of each id, and for each literal, by its code, the ids of the clauses that watch it
pub record Watching : Type 0 where
  pub pairs : List WatchedPair
  pub lists : List (List ℕ)

-- the list of a literal
unfoldable pub watch_list_in : List (List ℕ) → ℤ → List ℕ
watch_list_in lists l = slice_index_or lists (code_of l) []

abbrev pub list_of : Watching → ℤ → List ℕ
list_of w = watch_list_in w.lists

-- the pair of a clause without literals
abbrev pub no_pair : WatchedPair
no_pair = record { first = pos 1; second = pos 1 }

-- the pair of an id
abbrev pub pair_at : Watching → ℕ → WatchedPair
pair_at w id = slice_index_or w.pairs (id - 1) (record { first = pos 1; second = pos 1 })

-- the first two literals; 1 replaces a missing one
abbrev pub pair_of : List ℤ → WatchedPair
pair_of lits = record { first = slice_index_or lits 0 (pos 1); second = slice_index_or lits 1 (pos 1) }

-- an id appended to a literal's watch list
abbrev pub with_id : List (List ℕ) → ℤ → ℕ → List (List ℕ)
with_id lists l id = slice_set lists (code_of l) (watch_list_in lists l ++ id ∷ [])

abbrev pub with_ids : List (List ℕ) → List ℤ → ℕ → List (List ℕ)
with_ids lists lits id = if nat_lt (length lits) 2 then lists else with_id (with_id lists (pair_of lits).first id) (pair_of lits).second id

-- A clause was added, and watches its first two literals.
abbrev pub watching_more : Watching → List ℤ → ℕ → Watching
watching_more w lits id = record { pairs = w.pairs ++ pair_of lits ∷ []; lists = with_ids w.lists lits id }

-- the pair with `to` instead of `from`
abbrev pub replaced : WatchedPair → ℤ → ℤ → WatchedPair
replaced p from to = if int_eq p.first from then record { first = to; second = p.second } else record { first = p.first; second = to }

-- A clause watches `to` instead of `from`, in whose watch list it was at an index.
abbrev pub watching_moved : Watching → ℕ → ℤ → ℤ → ℕ → Watching
watching_moved w id from to index = record {
  pairs = slice_set w.pairs (id - 1) (replaced (pair_at w id) from to);
  lists = slice_set (with_id w.lists to id) (code_of from) (swap_remove (watch_list_in w.lists from) index 0);
}

-- a watch list for each literal of the variables 1 to vars
abbrev pub HasRoom : ℕ → Watching → Type 0
HasRoom vars w = length w.lists ≡ 2 * vars + 2
