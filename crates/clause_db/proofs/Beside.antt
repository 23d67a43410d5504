-- The rows of blocking literals beside the watch lists.
use Rattle.std.proofs.Common.{◌≡◌, ℕ, ◌+◌, ◌-◌, ◌*◌, ◌<◌, ◌≤◌, ◌⊎◌, ℤ, pos, List, [], ◌∷◌, ◌++◌, length, take}
use Rattle.std.proofs.Common.{slice_index_or, slice_set, replicate, Contains, Some, refl, sym, ap, ◌∙◌, subst, arith}
use Rattle.std.proofs.Common.{inl, inr}
use Rattle.std.specs.List.{swap_remove}
use Rattle.std.proofs.Math.Logic.{⊎_elim}
use Rattle.std.proofs.lemmas.Bool.{cases_eq, cases_lt, lt-ltb, le-ltb}
use Rattle.std.proofs.lemmas.Grind.{common_steps}
use Rattle.std.proofs.lemmas.List.{length_push, length-set, length-replicate, get_or-set_same, get_or-set_other, get_or_push, get_or_append_left, set-set, set-get_or, set_past}
use Rattle.std.proofs.lemmas.List.Elements.{All-contains, Contains-get_or}
use Rattle.sat_theory.specs.Formula.{variable, IsClause, IsWithin}
use Rattle.cdcl_theory.specs.Codes.{code_of}
use Rattle.cdcl_theory.specs.CodeLaws.{code_of-same, cases_literal, code_of-room}
use Rattle.clause_db.specs.Deleting.{lists_left, rows_left}
use Rattle.clause_db.specs.Watching.{watch_list_in, list_of, pair_of}
use Rattle.clause_db.specs.WatchingLaws.{listed-same, listed-other, list_from, list_to, list_else, listed_none, swap_length, swap_at, swap_other}
use Rattle.clause_db.specs.Sorted.{sorted}
use Rattle.clause_db.specs.SortedLaws.{Contains-sorted}
use Rattle.clause_db.specs.Stored.{Stored, live_in, Watches, IsStored, none_stored, added, rewatched}
use Rattle.clause_db.specs.StoredLaws.{live_added, next_is_free}
use Rattle.clause_db.specs.Moving.{IsMovable, movable_watches}
use Rattle.clause_db.specs.Adding.{watched_variable, added_lists, first_in, second_in, two_differ}
use Rattle.clause_db.specs.Blockers.{row_of, with_row, with_blocker, with_blockers, rows_moved, blocker_at, IsLiteralOf, AreBlockers}

-- the row that was written, and the others
pub row-same : (rows : List (List ℤ)) (l m : ℤ) (xs : List ℤ) → code_of l < length rows → m ≡ l → row_of (with_row rows l xs) m ≡ xs
unfolding row_of
row-same rows l m xs room e = ap (λ (k : ℤ). slice_index_or (slice_set rows (code_of l) xs) (code_of k) []) e ∙ get_or-set_same rows (code_of l) xs [] room

pub row-other : (rows : List (List ℤ)) (l m : ℤ) (xs : List ℤ) → (m ≡ l → ⊥) → row_of (with_row rows l xs) m ≡ row_of rows m
unfolding row_of
row-other rows l m xs apart = get_or-set_other rows (code_of l) (code_of m) xs [] (λ e. apart (code_of-same m l e))

row_whole : (rows : List (List ℤ)) (l : ℤ) → with_row rows l (row_of rows l) ≡ rows
unfolding row_of
row_whole rows l = set-get_or rows (code_of l) []

-- a literal that was appended to a row, and removed again
pub row_back : (rows : List (List ℤ)) (l m : ℤ) → with_row (with_blocker rows l m) l (take (length (row_of (with_blocker rows l m) l) - 1) (row_of (with_blocker rows l m) l)) ≡ rows
row_back rows l m = ⊎_elim
    (λ (room : code_of l < length rows).
    let is : row_of (with_blocker rows l m) l ≡ row_of rows l ++ m ∷ [] = row-same rows l l (row_of rows l ++ m ∷ []) room refl in
    let front : take (length (row_of (with_blocker rows l m) l) - 1) (row_of (with_blocker rows l m) l) ≡ row_of rows l = rw is (grind (arith, common_steps)) in
    ap (λ (xs : List ℤ). with_row (with_blocker rows l m) l xs) front ∙ set-set rows (code_of l) (row_of rows l ++ m ∷ []) (row_of rows l) ∙ row_whole rows l)
    (λ (past : length rows ≤ code_of l).
    ap (λ (zs : List (List ℤ)). with_row zs l (take (length (row_of zs l) - 1) (row_of zs l))) (set_past rows (code_of l) (row_of rows l ++ m ∷ []) past) ∙ set_past rows (code_of l) _ past)
    (cases_lt (code_of l) (length rows))

row_none : (n : ℕ) (l : ℤ) → row_of (replicate n []) l ≡ []
unfolding row_of
row_none n l = ⊎_elim (λ (within : code_of l < n). grind (arith, common_steps)) (λ (past : n ≤ code_of l). grind (arith, common_steps)) (cases_lt (code_of l) n)

-- Each blocking literal of a list has a relation to the id of its entry.
record IsBeside (P : ℕ → ℤ → Type 0) (ids : List ℕ) (row : List ℤ) : Type 0 where
  long : length row ≡ length ids
  there : (k : ℕ) → k < length ids → P (slice_index_or ids k 0) (slice_index_or row k (pos 1))

beside_none : (P : ℕ → ℤ → Type 0) → IsBeside P [] []
beside_none P = record { long = refl; there = λ k low. absurd (omega (arith, low)) }

beside_push : (P : ℕ → ℤ → Type 0) (ids : List ℕ) (row : List ℤ) (id : ℕ) (m : ℤ) → IsBeside P ids row → P id m → IsBeside P (ids ++ id ∷ []) (row ++ m ∷ [])
beside_push P ids row id m old of = record {
  long = length_push row m ∙ ap (λ (n : ℕ). n + 1) old.long ∙ sym (length_push ids id);
  there = λ k low. ⊎_elim
      (λ (less : k < length ids).
      let long : length row ≡ length ids = old.long in
      rw (get_or_append_left ids (id ∷ []) 0 k less, get_or_append_left row (m ∷ []) (pos 1) k (omega (arith, long, less))) (old.there k less))
      (λ (last : length ids ≤ k).
      let more : length (ids ++ id ∷ []) ≡ length ids + 1 = length_push ids id in
      let at : length ids ≡ k = omega (arith, last, low, more) in
      rw (get_or_push ids id 0 k at, get_or_push row m (pos 1) k (old.long ∙ at)) of)
      (cases_lt k (length ids));
}

beside_swap : (P : ℕ → ℤ → Type 0) (ids : List ℕ) (row : List ℤ) (index : ℕ) → index < length ids → IsBeside P ids row → IsBeside P (swap_remove ids index 0) (swap_remove row index (pos 1))
beside_swap P ids row index inside old =
    let long : length row ≡ length ids = old.long in
    let inside_row : index < length row = omega (arith, long, inside) in
    record {
      long = swap_length row index (pos 1) inside_row ∙ ap (λ (n : ℕ). n - 1) old.long ∙ sym (swap_length ids index 0 inside);
      there = λ k low.
          let less : k < length ids - 1 = subst (λ (n : ℕ). k < n) (swap_length ids index 0 inside) low in
          let less_row : k < length row - 1 = omega (arith, less, long) in
          ⊎_elim
          (λ (here : k ≡ index).
          let last : P (slice_index_or ids (length ids - 1) 0) (slice_index_or row (length row - 1) (pos 1)) =
          subst (λ (n : ℕ). P (slice_index_or ids (length ids - 1) 0) (slice_index_or row n (pos 1)))
          (ap (λ (n : ℕ). n - 1) (sym long)) (old.there (length ids - 1) (omega (arith, inside))) in
          rw (swap_at ids index 0 k 0 inside less here, swap_at row index (pos 1) k (pos 1) inside_row less_row here) last)
          (λ (apart : k ≡ index → ⊥). rw (swap_other ids index 0 k 0 less apart, swap_other row index (pos 1) k (pos 1) less_row apart) (old.there k (omega (arith, less))))
          (cases_eq k index);
    }

beside_set : (P : ℕ → ℤ → Type 0) (ids : List ℕ) (row : List ℤ) (index : ℕ) (m : ℤ) → index < length ids →
    IsBeside P ids row → P (slice_index_or ids index 0) m → IsBeside P ids (slice_set row index m)
beside_set P ids row index m inside old of =
    let long : length row ≡ length ids = old.long in
    let inside_row : index < length row = omega (arith, long, inside) in
    record {
      long = length-set row index m ∙ long;
      there = λ k low. ⊎_elim
          (λ (here : k ≡ index). rw (here, get_or-set_same row index m (pos 1) inside_row) of)
          (λ (apart : k ≡ index → ⊥). rw (get_or-set_other row index k m (pos 1) apart) (old.there k low))
          (cases_eq k index);
    }

-- of all literals
blockers_at : (s : Stored) (rows : List (List ℤ)) (l : ℤ) → AreBlockers s rows → IsBeside (λ (id : ℕ) (m : ℤ). IsLiteralOf s id m) (list_of s.watches l) (row_of rows l)
blockers_at s rows l are = record { long = are.long l; there = λ k low. are.there l k low }

blockers_from : (s : Stored) (rows : List (List ℤ)) → length rows ≡ 2 * s.vars + 2 →
    ((l : ℤ) → IsBeside (λ (id : ℕ) (m : ℤ). IsLiteralOf s id m) (list_of s.watches l) (row_of rows l)) →
    AreBlockers s rows
blockers_from s rows room each = record { room = room; long = λ l. (each l).long; there = λ l k low. (each l).there k low }

pub blockers_none : (vars : ℕ) → AreBlockers (none_stored vars) (replicate (2 * vars + 2) [])
blockers_none vars = blockers_from (none_stored vars) (replicate (2 * vars + 2) []) (length-replicate (2 * vars + 2) []) each
  where
    each : (l : ℤ) → IsBeside (λ (id : ℕ) (m : ℤ). IsLiteralOf (none_stored vars) id m) (list_of (none_stored vars).watches l) (row_of (replicate (2 * vars + 2) []) l)
    each l = subst (λ (xs : List ℕ). IsBeside (λ (id : ℕ) (m : ℤ). IsLiteralOf (none_stored vars) id m) xs (row_of (replicate (2 * vars + 2) []) l)) (sym (listed_none (2 * vars + 2) l))
        (subst (λ (ys : List ℤ). IsBeside (λ (id : ℕ) (m : ℤ). IsLiteralOf (none_stored vars) id m) [] ys)
        (sym (row_none (2 * vars + 2) l)) (beside_none (λ (id : ℕ) (m : ℤ). IsLiteralOf (none_stored vars) id m)))

-- A blocking literal is replaced.
pub blockers_set : (s : Stored) (rows : List (List ℤ)) (l m : ℤ) (index : ℕ) → AreBlockers s rows →
    code_of l < length rows → index < length (list_of s.watches l) →
    IsLiteralOf s (slice_index_or (list_of s.watches l) index 0) m →
    AreBlockers s (with_row rows l (slice_set (row_of rows l) index m))
blockers_set s rows l m index are room inside of = blockers_from s (with_row rows l row) (length-set rows (code_of l) row ∙ are.room) each
  where
    row : List ℤ
    row = slice_set (row_of rows l) index m

    each : (x : ℤ) → IsBeside (λ (id : ℕ) (n : ℤ). IsLiteralOf s id n) (list_of s.watches x) (row_of (with_row rows l row) x)
    each x = ⊎_elim
        (λ (e : x ≡ l). subst (λ (ys : List ℤ). IsBeside (λ (id : ℕ) (n : ℤ). IsLiteralOf s id n)
        (list_of s.watches x) ys) (sym (row-same rows l x row room e))
        (subst (λ (y : ℤ). IsBeside (λ (id : ℕ) (n : ℤ). IsLiteralOf s id n) (list_of s.watches y) row) (sym e)
        (beside_set (λ (id : ℕ) (n : ℤ). IsLiteralOf s id n) (list_of s.watches l) (row_of rows l) index m inside
        (blockers_at s rows l are) of)))
        (λ (apart : x ≡ l → ⊥). subst (λ (ys : List ℤ). IsBeside (λ (id : ℕ) (n : ℤ). IsLiteralOf s id n) (list_of s.watches x) ys) (sym (row-other rows l x row apart)) (blockers_at s rows x are))
        (cases_literal x l)

-- the rows after a clause was added
row_first : (rows : List (List ℤ)) (lits : List ℤ) (l : ℤ) → 2 ≤ length lits →
    code_of (pair_of lits).first < length rows → ((pair_of lits).first ≡ (pair_of lits).second → ⊥) →
    l ≡ (pair_of lits).first → row_of (with_blockers rows lits) l ≡ row_of rows l ++ (pair_of lits).second ∷ []
row_first rows lits l long room differ is =
    let a : ℤ = (pair_of lits).first in
    let b : ℤ = (pair_of lits).second in
    let both : with_blockers rows lits ≡ with_blocker (with_blocker rows a b) b a = rw (le-ltb (length lits) 2 long) refl in
    ap (λ (xs : List (List ℤ)). row_of xs l) both ∙ row-other (with_blocker rows a b) b l _ (λ e. differ (sym is ∙ e)) ∙ row-same rows a l _ room is ∙ ap (λ (x : ℤ). row_of rows x ++ b ∷ []) (sym is)

row_second : (rows : List (List ℤ)) (lits : List ℤ) (l : ℤ) → 2 ≤ length lits →
    code_of (pair_of lits).second < length rows → ((pair_of lits).first ≡ (pair_of lits).second → ⊥) →
    l ≡ (pair_of lits).second → row_of (with_blockers rows lits) l ≡ row_of rows l ++ (pair_of lits).first ∷ []
row_second rows lits l long room differ is =
    let a : ℤ = (pair_of lits).first in
    let b : ℤ = (pair_of lits).second in
    let both : with_blockers rows lits ≡ with_blocker (with_blocker rows a b) b a = rw (le-ltb (length lits) 2 long) refl in
    ap (λ (xs : List (List ℤ)). row_of xs l) both ∙ row-same (with_blocker rows a b) b l _ (rw length-set room) is
    ∙ ap (λ (xs : List ℤ). xs ++ a ∷ []) (row-other rows a b _ (λ e. differ (sym e)) ∙ ap (row_of rows) (sym is))

row_rest : (rows : List (List ℤ)) (lits : List ℤ) (l : ℤ) → (2 ≤ length lits → (l ≡ (pair_of lits).first) ⊎ (l ≡ (pair_of lits).second) → ⊥) → row_of (with_blockers rows lits) l ≡ row_of rows l
row_rest rows lits l other = ⊎_elim
    (λ (short : length lits < 2). rw (lt-ltb (length lits) 2 short) refl)
    (λ (long : 2 ≤ length lits).
    let a : ℤ = (pair_of lits).first in
    let b : ℤ = (pair_of lits).second in
    let both : with_blockers rows lits ≡ with_blocker (with_blocker rows a b) b a = rw (le-ltb (length lits) 2 long) refl in
    ap (λ (xs : List (List ℤ)). row_of xs l) both ∙ row-other (with_blocker rows a b) b l _ (λ e. other long (inr e)) ∙ row-other rows a l _ (λ e. other long (inl e)))
    (cases_lt (length lits) 2)

rows_more_room : (rows : List (List ℤ)) (lits : List ℤ) → length (with_blockers rows lits) ≡ length rows
rows_more_room rows lits = ⊎_elim
    (λ (short : length lits < 2). rw (lt-ltb (length lits) 2 short) refl)
    (λ (long : 2 ≤ length lits). rw (le-ltb (length lits) 2 long)
    (length-set (with_blocker rows (pair_of lits).first (pair_of lits).second) (code_of (pair_of lits).second) _
    ∙ length-set rows (code_of (pair_of lits).first) _))
    (cases_lt (length lits) 2)

-- A clause is added, and each of its first two literals is the blocking one in the row of the
-- other.
pub blockers_added : (s : Stored) (lits : List ℤ) (rows : List (List ℤ)) → IsStored s → IsClause lits → IsWithin s.vars lits → AreBlockers s rows → AreBlockers (added s lits) (with_blockers rows lits)
blockers_added s lits rows stored is_clause within are = blockers_from (added s lits) (with_blockers rows lits) (rows_more_room rows lits ∙ are.room) each
  where
    next : ℕ
    next = length s.clauses + 1

    room_of : (m : ℤ) → Contains lits m → code_of m < length rows
    room_of m there = rw are.room (code_of-room m s.vars (All-contains (λ x. variable x ≤ s.vars) lits m within there))

    old_of : (l m : ℤ) (k : ℕ) → k < length (list_of s.watches l) → IsLiteralOf s (slice_index_or (list_of s.watches l) k 0) m → IsLiteralOf (added s lits) (slice_index_or (list_of s.watches l) k 0) m
    old_of l m k low of clause is =
        let watches : Watches s (slice_index_or (list_of s.watches l) k 0) l = stored.only l (slice_index_or (list_of s.watches l) k 0) (Contains-get_or (list_of s.watches l) k 0 low) in
        ⊎_elim
        (λ (new : (slice_index_or (list_of s.watches l) k 0 ≡ next) × (sorted lits ≡ clause)). absurd (next_is_free s (slice_index_or (list_of s.watches l) k 0) watches.clause watches.is_live new.0))
        (λ (old : live_in s (slice_index_or (list_of s.watches l) k 0) ≡ Some clause). of clause old)
        (live_added s lits (slice_index_or (list_of s.watches l) k 0) clause is)

    new_of : (m : ℤ) → Contains lits m → IsLiteralOf (added s lits) next m
    new_of m in_lits clause is = ⊎_elim
        (λ (new : (next ≡ next) × (sorted lits ≡ clause)). subst (λ (c : List ℤ). Contains c m) new.1 (Contains-sorted lits m in_lits))
        (λ (old : live_in s next ≡ Some clause). absurd (next_is_free s next clause old refl))
        (live_added s lits next clause is)

    old_at : (l : ℤ) → IsBeside (λ (id : ℕ) (m : ℤ). IsLiteralOf (added s lits) id m) (list_of s.watches l) (row_of rows l)
    old_at l = record { long = are.long l; there = λ k low. old_of l (blocker_at rows l k) k low (are.there l k low) }

    more : (l m : ℤ) → Contains lits m → row_of (with_blockers rows lits) l ≡ row_of rows l ++ m ∷ [] →
        IsBeside (λ (id : ℕ) (n : ℤ). IsLiteralOf (added s lits) id n) (list_of s.watches l ++
        next ∷ []) (row_of (with_blockers rows lits) l)
    more l m in_lits row = subst (λ (ys : List ℤ). IsBeside (λ (id : ℕ) (n : ℤ). IsLiteralOf (added s lits) id n)
        (list_of s.watches l ++ next ∷ []) ys) (sym row)
        (beside_push (λ (id : ℕ) (n : ℤ). IsLiteralOf (added s lits) id n) (list_of s.watches l) (row_of rows l) next m
        (old_at l) (new_of m in_lits))

    each : (l : ℤ) → IsBeside (λ (id : ℕ) (m : ℤ). IsLiteralOf (added s lits) id m) (list_of (added s lits).watches l) (row_of (with_blockers rows lits) l)
    each l =
        elim (added_lists s lits l stored is_clause within) [
          | inl here ↦
              subst (λ (xs : List ℕ). IsBeside (λ (id : ℕ) (m : ℤ). IsLiteralOf (added s lits) id m) xs (row_of (with_blockers rows lits) l)) (sym here.2) (⊎_elim
              (λ (e : l ≡ (pair_of lits).first). more l (pair_of lits).second (second_in lits here.0)
              (row_first rows lits l here.0 (room_of (pair_of lits).first (first_in lits here.0))
              (two_differ lits is_clause here.0) e))
              (λ (e : l ≡ (pair_of lits).second). more l (pair_of lits).first (first_in lits here.0)
              (row_second rows lits l here.0 (room_of (pair_of lits).second (second_in lits here.0))
              (two_differ lits is_clause here.0) e))
              here.1)
          | inr other ↦
              subst (λ (xs : List ℕ). IsBeside (λ (id : ℕ) (m : ℤ). IsLiteralOf (added s lits) id m) xs (row_of (with_blockers rows lits) l)) (sym other.1)
              (subst (λ (ys : List ℤ). IsBeside (λ (id : ℕ) (m : ℤ). IsLiteralOf (added s lits) id m) (list_of s.watches l) ys) (sym (row_rest rows lits l other.0)) (old_at l))
        ]

-- A watch is moved, with a blocking literal of the clause.
pub blockers_moved : (s : Stored) (rows : List (List ℤ)) (id : ℕ) (from to m : ℤ) (index : ℕ) → IsStored s →
    IsMovable s id from to index → AreBlockers s rows → code_of from < length rows → code_of to < length rows →
    code_of to < length s.watches.lists → IsLiteralOf s id m →
    AreBlockers (rewatched s id from to index) (rows_moved rows from to index m)
blockers_moved s rows id from to m index stored movable are room room_to list_room of =
    blockers_from new (rows_moved rows from to index m) (length-set (with_blocker rows to m) (code_of from) row
    ∙ length-set rows (code_of to) _ ∙ are.room) each
  where
    new : Stored
    new = rewatched s id from to index

    row : List ℤ
    row = swap_remove (row_of rows from) index (pos 1)

    room_from : code_of from < length s.watches.lists
    room_from = rw stored.room (code_of-room from s.vars (watched_variable s id from stored (movable_watches s id from to index stored movable)))

    each : (l : ℤ) → IsBeside (λ (k : ℕ) (n : ℤ). IsLiteralOf s k n) (list_of new.watches l) (row_of (rows_moved rows from to index m) l)
    each l = ⊎_elim
        (λ (e : l ≡ from). subst (λ (xs : List ℕ). IsBeside (λ (k : ℕ) (n : ℤ). IsLiteralOf s k n) xs
        (row_of (rows_moved rows from to index m) l)) (sym (list_from s.watches id from to index l room_from e))
        (subst (λ (ys : List ℤ). IsBeside (λ (k : ℕ) (n : ℤ). IsLiteralOf s k n)
        (swap_remove (list_of s.watches from) index 0) ys)
        (sym (row-same (with_blocker rows to m) from l row (rw length-set room) e))
        (beside_swap (λ (k : ℕ) (n : ℤ). IsLiteralOf s k n) (list_of s.watches from) (row_of rows from) index movable.inside (blockers_at s rows from are))))
        (λ (apart : l ≡ from → ⊥). ⊎_elim
        (λ (e : l ≡ to). subst (λ (xs : List ℕ). IsBeside (λ (k : ℕ) (n : ℤ). IsLiteralOf s k n) xs
        (row_of (rows_moved rows from to index m) l)) (sym (list_to s.watches id from to index l list_room apart e))
        (subst (λ (ys : List ℤ). IsBeside (λ (k : ℕ) (n : ℤ). IsLiteralOf s k n) (list_of s.watches to ++ id ∷ []) ys)
        (sym (row-other (with_blocker rows to m) from l row apart ∙ row-same rows to l _ room_to e))
        (beside_push (λ (k : ℕ) (n : ℤ). IsLiteralOf s k n) (list_of s.watches to) (row_of rows to) id m (blockers_at s rows to are) of)))
        (λ (other : l ≡ to → ⊥). subst (λ (xs : List ℕ). IsBeside (λ (k : ℕ) (n : ℤ). IsLiteralOf s k n) xs
        (row_of (rows_moved rows from to index m) l)) (sym (list_else s.watches id from to index l apart other))
        (subst (λ (ys : List ℤ). IsBeside (λ (k : ℕ) (n : ℤ). IsLiteralOf s k n) (list_of s.watches l) ys)
        (sym (row-other (with_blocker rows to m) from l row apart ∙ row-other rows to l _ other))
        (blockers_at s rows l are)))
        (cases_literal l to))
        (cases_literal l from)

-- one relation implies another
beside_weaker : (P Q : ℕ → ℤ → Type 0) (ids : List ℕ) (row : List ℤ) → ((id : ℕ) (m : ℤ) → P id m → Q id m) → IsBeside P ids row → IsBeside Q ids row
beside_weaker P Q ids row weaker old = record { long = old.long; there = λ k low. weaker (slice_index_or ids k 0) (slice_index_or row k (pos 1)) (old.there k low) }

-- An id leaves a watch list, and its blocking literal leaves the row.
beside_left : (P : ℕ → ℤ → Type 0) (lists : List (List ℕ)) (rows : List (List ℤ)) (l : ℤ) (index : ℕ) →
    code_of l < length lists → code_of l < length rows → index < length (watch_list_in lists l) →
    ((m : ℤ) → IsBeside P (watch_list_in lists m) (row_of rows m)) → (m : ℤ) →
    IsBeside P (watch_list_in (lists_left lists l index) m) (row_of (rows_left rows l index) m)
beside_left P lists rows l index room room_row inside each m = ⊎_elim
    (λ (e : m ≡ l). subst (λ (xs : List ℕ). IsBeside P xs (row_of (rows_left rows l index) m)) (sym (listed-same lists l m (swap_remove (watch_list_in lists l) index 0) room e))
    (subst (λ (ys : List ℤ). IsBeside P (swap_remove (watch_list_in lists l) index 0) ys)
    (sym (row-same rows l m (swap_remove (row_of rows l) index (pos 1)) room_row e))
    (beside_swap P (watch_list_in lists l) (row_of rows l) index inside (each l))))
    (λ (apart : m ≡ l → ⊥). subst (λ (xs : List ℕ). IsBeside P xs (row_of (rows_left rows l index) m)) (sym (listed-other lists l m (swap_remove (watch_list_in lists l) index 0) apart))
    (subst (λ (ys : List ℤ). IsBeside P (watch_list_in lists m) ys) (sym (row-other rows l m (swap_remove (row_of rows l) index (pos 1)) apart)) (each m)))
    (cases_literal m l)

-- A clause that two literals watch is deleted.
pub blockers_left : (s new : Stored) (rows : List (List ℤ)) (one other : ℤ) (index place : ℕ) →
    length s.watches.lists ≡ 2 * s.vars + 2 → AreBlockers s rows → new.vars ≡ s.vars →
    new.watches.lists ≡ lists_left (lists_left s.watches.lists one index) other place →
    ((k : ℕ) (m : ℤ) → IsLiteralOf s k m → IsLiteralOf new k m)
    → code_of one < length s.watches.lists → code_of other < length s.watches.lists → (other ≡ one → ⊥) →
    index < length (list_of s.watches one) → place < length (list_of s.watches other) →
    AreBlockers new (rows_left (rows_left rows one index) other place)
blockers_left s new rows one other index place lists_room are vars lists of room_one room_other apart inside_one inside_other = blockers_from new (rows_left (rows_left rows one index) other place)
    (length-set (rows_left rows one index) (code_of other) _ ∙ length-set rows (code_of one) _ ∙ are.room ∙ ap (λ (n : ℕ). 2 * n + 2) (sym vars))
    (λ l. beside_weaker (λ (k : ℕ) (m : ℤ). IsLiteralOf s k m) (λ (k : ℕ) (m : ℤ). IsLiteralOf new k m) (list_of new.watches l) (row_of (rows_left (rows_left rows one index) other place) l) of
    (subst (λ (xs : List (List ℕ)). IsBeside (λ (k : ℕ) (m : ℤ). IsLiteralOf s k m) (watch_list_in xs l) (row_of (rows_left (rows_left rows one index) other place) l)) (sym lists) (second l)))
  where
    row_room : (m : ℤ) → code_of m < length s.watches.lists → code_of m < length rows
    row_room m low = rw (are.room ∙ sym lists_room) low

    first : (m : ℤ) → IsBeside (λ (k : ℕ) (n : ℤ). IsLiteralOf s k n) (watch_list_in (lists_left s.watches.lists one index) m) (row_of (rows_left rows one index) m)
    first m = beside_left (λ (k : ℕ) (n : ℤ). IsLiteralOf s k n) s.watches.lists rows one index room_one (row_room one room_one) inside_one (λ n. blockers_at s rows n are) m

    second : (m : ℤ) → IsBeside (λ (k : ℕ) (n : ℤ). IsLiteralOf s k n)
        (watch_list_in (lists_left (lists_left s.watches.lists one index) other place) m)
        (row_of (rows_left (rows_left rows one index) other place) m)
    second m = beside_left (λ (k : ℕ) (n : ℤ). IsLiteralOf s k n) (lists_left s.watches.lists one index)
        (rows_left rows one index) other place (rw length-set room_other) (rw length-set (row_room other room_other))
        (subst (λ (xs : List ℕ). place < length xs) (sym (listed-other s.watches.lists one other (swap_remove (watch_list_in s.watches.lists one) index 0) apart)) inside_other) first m

-- and one that watches nothing
pub blockers_fewer : (s new : Stored) (rows : List (List ℤ)) → AreBlockers s rows → new.vars ≡ s.vars →
    new.watches.lists ≡ s.watches.lists → ((k : ℕ) (m : ℤ) → IsLiteralOf s k m → IsLiteralOf new k m) →
    AreBlockers new rows
blockers_fewer s new rows are vars lists of = blockers_from new rows (are.room ∙ ap (λ (n : ℕ). 2 * n + 2) (sym vars))
    (λ l. beside_weaker (λ (k : ℕ) (m : ℤ). IsLiteralOf s k m) (λ (k : ℕ) (m : ℤ). IsLiteralOf new k m) (list_of new.watches l) (row_of rows l) of
    (subst (λ (xs : List (List ℕ)). IsBeside (λ (k : ℕ) (m : ℤ). IsLiteralOf s k m) (watch_list_in xs l) (row_of rows l)) (sym lists) (blockers_at s rows l are)))
