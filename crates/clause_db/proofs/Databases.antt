-- What contracts see of all parts together, and its invariant.
use Rattle.std.proofs.Common.{map, slice_get, Bool, true, false, zero, suc, append_assoc, ◌==◌, ◌≡◌, ◌≢◌, ℕ, ◌+◌, ◌*◌, ◌<◌, ◌≤◌, ℤ, List, [], ◌∷◌, ◌++◌}
use Rattle.std.proofs.Common.{length, slice_index_or, slice_set, replicate, ◌-◌, ◌⊎◌, inl, inr, Contains, All, pos, Option, Some, None, IsSome, refl, sym, ap, ◌∙◌, subst, arith}
use Rattle.std.proofs.lemmas.List.Elements.{All-contains}
use Rattle.std.proofs.lemmas.Bool.{ne_eqb}
use Rattle.std.proofs.lemmas.Grind.{common_steps}
use Rattle.std.proofs.Math.Logic.{⊎_elim}
use Rattle.sat_theory.specs.Formula.{variable, IsClause, IsWithin}
use Rattle.sat_theory.specs.State.{by_id}
use Rattle.cdcl_theory.specs.Codes.{code_of}
use Rattle.cdcl_theory.specs.CodeLaws.{code_of-room, cases_literal, int_eq-same, int_eq-other}
use Rattle.clause_db.specs.declared.watches.WatchedPair.{WatchedPair}
use Rattle.clause_db.specs.Watching.{list_of, pair_of, pair_at, no_pair, watching_moved}
use Rattle.clause_db.specs.Stored.{Stored, live_in, Watches, IsLong, IsPair, IsStored, none_stored, added, all_added, rewatched}
use Rattle.clause_db.specs.StoredLaws.{all_added-push, all_added-none, live_in-start, live_inside}
use Rattle.std.proofs.lemmas.List.{length_push, length-map, get_or-map}
use Rattle.std.proofs.lemmas.List.Elements.{Contains-get_or}
use Rattle.clause_db.specs.Blockers.{row_of, with_row, with_blockers, rows_moved, blocker_at, other_watch, IsLiteralOf, AreBeside, AreBlockers}
use Rattle.clause_db.specs.declared.lists.Watch.{Watch}
use Rattle.clause_db.specs.Lists.{blockers_of}
use Rattle.clause_db.proofs.Beside.{blockers_none, blockers_set, blockers_added, blockers_moved}
use Rattle.clause_db.specs.Arranging.{Arranged, block_at, watching_of, arranged_more, ArePermuted, IsNoneOf, clauses_of, shown}
use Rattle.clause_db.proofs.Arranging.{pair_block}
use Rattle.clause_db.proofs.Shown.{clauses_none, live_sorted, live_permuted, moved_long, shown_added, shown_moved}
use Rattle.clause_db.specs.Sorted.{sorted}
use Rattle.clause_db.specs.SortedLaws.{clause_permuted}
use Rattle.std.specs.List.Sorted.{IsPermutation}
use Rattle.std.proofs.lemmas.List.Sorted.{All-permutation, Contains-permutation, length_permutation}
use Rattle.clause_db.specs.Moving.{IsMovable, movable_watches, stored_rewatched}
use Rattle.clause_db.specs.Adding.{watched_in, watched_variable, stored_none, stored_added, rooms}

pub ruleset databases = (common_steps, all_added-push, all_added-none, stored_none, stored_added, stored_rewatched, rooms)

-- the pairs after the clauses of a list were added
pairs_all : (s : Stored) (cs : List (List ℤ)) → (all_added s cs).watches.pairs ≡ s.watches.pairs ++ map pair_of cs
unfolding all_added
pairs_all s [] = grind (arith, common_steps)
pairs_all s (c ∷ cs) = pairs_all (added s c) cs ∙ append_assoc s.watches.pairs (pair_of c ∷ []) (map pair_of cs)

pair_got : (cs : List (List ℤ)) (k : ℕ) (clause : List ℤ) → slice_get cs k ≡ Some clause → slice_index_or (map pair_of cs) k no_pair ≡ pair_of clause
pair_got [] k clause is = absurd (cc)
pair_got (c ∷ cs) zero clause is = let head : Some c ≡ Some clause = is in let same : c ≡ clause = cc in ap pair_of same
pair_got (c ∷ cs) (suc k) clause is = pair_got cs k clause is

-- each clause watches its first two literals
pub first_new : (vars : ℕ) (cs : List (List ℤ)) (s : Stored) → s ≡ all_added (none_stored vars) cs → (id : ℕ) (clause : List ℤ) → by_id cs id ≡ Some clause → pair_at s.watches id ≡ pair_of clause
first_new vars cs s is zero clause is_at = absurd (cc)
first_new vars cs s is (suc k) clause is_at =
    let some : (suc k == 0) ≡ false = ne_eqb (suc k) 0 (λ e. omega arith) in
    let pairs : s.watches.pairs ≡ map pair_of cs = ap (λ (x : Stored). x.watches.pairs) is ∙ pairs_all (none_stored vars) cs in
    ap (λ (ps : List WatchedPair). slice_index_or ps (suc k - 1) no_pair) pairs ∙ pair_got cs (suc k - 1) clause (rw some at is_at)

pub live_new : (vars : ℕ) (cs : List (List ℤ)) (s : Stored) → s ≡ all_added (none_stored vars) cs → live_in s ≡ by_id (map sorted cs)
live_new vars cs s is = ap live_in is ∙ live_in-start vars cs

-- the watched literals are literals of the clause
pub pair_in : (s now : Stored) (id : ℕ) (p : WatchedPair) → s ≡ now → IsStored s → p ≡ pair_at s.watches id →
    IsLong now id → (clause : List ℤ) → live_in now id ≡ Some clause → Contains clause p.first ×
    Contains clause p.second
pair_in s now id p view stored p_is long clause is =
    let here : live_in s id ≡ Some clause = subst (λ (x : Stored). live_in x id ≡ Some clause) (sym view) is in
    let live : live_in now id ≡ Some long.clause = long.is_live in
    let same : long.clause ≡ clause = cc in
    let two : 2 ≤ length clause = subst (λ (c : List ℤ). 2 ≤ length c) same long.long in
    let pair : IsPair clause (pair_at s.watches id) = stored.pairs id clause here two in
    rw p_is (pair.first, pair.second)

-- the invariant of what contracts see, with the blocking literals
abbrev pub AreWhole : ℕ → List Bool → Arranged → Type 0
AreWhole vars live a = IsStored (shown vars live a) × AreBlockers (shown vars live a) a.rows × (length live ≡ length a.arena)

-- and differ
pub pair_differ : (s now : Stored) (id : ℕ) (p : WatchedPair) → s ≡ now → IsStored s → p ≡ pair_at s.watches id → IsLong now id → p.first ≢ p.second
pair_differ s now id p view stored p_is long =
    rw p_is (stored.pairs id long.clause (subst (λ (x : Stored). live_in x id ≡ Some long.clause) (sym view) long.is_live) long.long).differ

-- there are as many lists of literals as ids
pub blocks_room : (vars : ℕ) (live : List Bool) (a : Arranged) → IsStored (shown vars live a) → length a.arena ≡ length (clauses_of live a.arena)
blocks_room vars live a stored = sym (length-map a.arena pair_of) ∙ stored.pairs_room

some_is : (o : Option (List ℤ)) → IsSome o → (clause : List ℤ) × (o ≡ Some clause)
some_is (Some clause) some = (clause, refl)
some_is None some = absurd (cc)

-- the lists and the id of a clause that can be moved
pub movable_rooms : (s now : Stored) (from to : ℤ) (index : ℕ) → s ≡ now → IsStored s →
    IsMovable now (slice_index_or (list_of now.watches from) index 0) from to index →
    (code_of from < length s.watches.lists) × (code_of to < length s.watches.lists)
movable_rooms s now from to index view stored movable_now =
    let movable : IsMovable s (slice_index_or (list_of s.watches from) index 0) from to index =
    subst (λ (x : Stored). IsMovable x (slice_index_or (list_of x.watches from) index 0) from to index)
    (sym view) movable_now in
    let watches : Watches s (slice_index_or (list_of s.watches from) index 0) from = movable_watches s (slice_index_or (list_of s.watches from) index 0) from to index stored movable in
    let to_low : variable to ≤ s.vars = All-contains (λ m. variable m ≤ s.vars) watches.clause to
    (stored.variables (slice_index_or (list_of s.watches from) index 0) watches.clause watches.is_live)
    (movable.there watches.clause watches.is_live) in
    (rw stored.room (code_of-room from s.vars (watched_variable s (slice_index_or (list_of s.watches from) index 0) from stored watches)), rw stored.room (code_of-room to s.vars to_low))

pub movable_given : (vars : ℕ) (live : List Bool) (a : Arranged) (now : Stored) (from to : ℤ) (index : ℕ) → shown vars live a ≡ now → IsStored (shown vars live a)
    → IsMovable now (slice_index_or (list_of now.watches from) index 0) from to index
    → (0 < slice_index_or (list_of (watching_of a) from) index 0) × (slice_index_or (list_of (watching_of a) from) index 0 ≤ length a.arena)
movable_given vars live a now from to index view stored movable_now =
    let s : Stored = shown vars live a in
    let movable : IsMovable s (slice_index_or (list_of s.watches from) index 0) from to index =
    subst (λ (x : Stored). IsMovable x (slice_index_or (list_of x.watches from) index 0) from to index)
    (sym view) movable_now in
    let watches : Watches s (slice_index_or (list_of s.watches from) index 0) from = movable_watches s (slice_index_or (list_of s.watches from) index 0) from to index stored movable in
    let low : (0 < slice_index_or (list_of s.watches from) index 0) ×
    (slice_index_or (list_of s.watches from) index 0 ≤ length s.clauses) =
    live_inside s (slice_index_or (list_of s.watches from) index 0) watches.clause watches.is_live in
    let room : length a.arena ≡ length (clauses_of live a.arena) = blocks_room vars live a stored in
    (low.0, omega (arith, low.1, room))

pub whole_none : (vars : ℕ) (live : List Bool) (a : Arranged) → live ≡ [] →
    a ≡ record { arena = []; lists = replicate (2 * vars + 2) []; rows = replicate (2 * vars + 2) [] } →
    AreWhole vars live a × (shown vars live a ≡ none_stored vars)
whole_none vars live a live_is a_is = rw (live_is, a_is) ((stored_of (clauses_none []), blockers_of_none (clauses_none []), refl), is_none (clauses_none []))
  where
    is_none : {cs : List (Option (List ℤ))} → cs ≡ [] →
        (let s : Stored = record {
          vars = vars;
          clauses = cs;
          watches = record { pairs = []; lists = replicate (2 * vars + 2) [] };
        } in s) ≡ none_stored vars
    is_none e = rw e refl

    stored_of : {cs : List (Option (List ℤ))} → cs ≡ [] → IsStored (record { vars = vars; clauses = cs; watches = record { pairs = []; lists = replicate (2 * vars + 2) [] } })
    stored_of e = rw e (stored_none vars)

    blockers_of_none : {cs : List (Option (List ℤ))} → cs ≡ [] →
        AreBlockers (record {
          vars = vars;
          clauses = cs;
          watches = record { pairs = []; lists = replicate (2 * vars + 2) [] };
        }) (replicate (2 * vars + 2) [])
    blockers_of_none e = rw e (blockers_none vars)

-- A clause is added.
pub added_is : (vars : ℕ) (live : List Bool) (a : Arranged) (now : Stored) (lits : List ℤ) (live_new : List Bool) (a_new : Arranged) (id : ℕ) → shown vars live a ≡ now
    → length live ≡ length a.arena → live_new ≡ live ++ true ∷ [] → a_new ≡ arranged_more a lits id → id ≡ length live + 1 → shown vars live_new a_new ≡ added now lits
added_is vars live a now lits live_new a_new id view same live_is a_is id_is = rw (live_is, a_is) (shown_added vars live a lits id same id_is ∙ ap (λ (s : Stored). added s lits) view)

pub whole_added : (vars : ℕ) (live : List Bool) (a : Arranged) (now : Stored) (lits : List ℤ) (live_new : List Bool) (a_new : Arranged) (id : ℕ) → shown vars live a ≡ now
    → AreWhole vars live a → IsClause lits → IsWithin now.vars lits → length now.clauses < 4000000000
    → live_new ≡ live ++ true ∷ [] → a_new ≡ arranged_more a lits id → id ≡ length live + 1 → AreWhole vars live_new a_new
whole_added vars live a now lits live_new a_new id view whole is_clause within few live_is a_is id_is =
    let is : shown vars live_new a_new ≡ added now lits = added_is vars live a now lits live_new a_new id view whole.2 live_is a_is id_is in
    let stored : IsStored now = subst IsStored view whole.0 in
    let rows : a_new.rows ≡ with_blockers a.rows lits = ap (λ (x : Arranged). x.rows) a_is in
    let long : length live_new ≡ length live + 1 = ap length live_is ∙ length_push live true in
    let room : length a_new.arena ≡ length a.arena + 1 = ap (λ (x : Arranged). length x.arena) a_is ∙ length_push a.arena lits in (
      subst IsStored (sym is) (stored_added now lits stored is_clause within few),
      subst (λ (s : Stored). AreBlockers s a_new.rows) (sym is)
          (subst (AreBlockers (added now lits)) (sym rows) (blockers_added now lits a.rows stored is_clause within
          (subst (λ (s : Stored). AreBlockers s a.rows) view whole.1))),
      long ∙ ap (λ (n : ℕ). n + 1) whole.2 ∙ sym room,
    )

pub whole_set : (vars : ℕ) (live : List Bool) (a : Arranged) (now : Stored) (a_new : Arranged) (l m : ℤ) (index : ℕ) → shown vars live a ≡ now → AreWhole vars live a
    → variable l ≤ now.vars → index < length (list_of now.watches l) → IsLiteralOf now (slice_index_or (list_of now.watches l) index 0) m
    → a_new ≡ record a { rows = with_row a.rows l (slice_set (row_of a.rows l) index m) } → AreWhole vars live a_new
whole_set vars live a now a_new l m index view whole low inside of new_is =
    let s : Stored = shown vars live a in
    let room : code_of l < length a.rows = rw whole.1.room (code_of-room l s.vars (subst (λ (x : Stored). variable l ≤ x.vars) (sym view) low)) in
    rw new_is (
      whole.0,
      blockers_set s a.rows l m index whole.1 room
          (subst (λ (x : Stored). index < length (list_of x.watches l)) (sym view) inside)
          (subst (λ (x : Stored). IsLiteralOf x (slice_index_or (list_of x.watches l) index 0) m) (sym view) of),
      whole.2,
    )

-- the blocking literals are literals of the formula
pub blockers_over : (s now : Stored) (rows : List (List ℤ)) (l : ℤ) (row : List ℤ) → s ≡ now → IsStored s → AreBlockers s rows → row ≡ row_of rows l → IsWithin now.vars row
blockers_over s now rows l row view stored are row_is = rw row_is (subst (λ (x : Stored). IsWithin x.vars (row_of rows l)) view over)
  where
    over : IsWithin s.vars (row_of rows l)
    over k d within =
        let long : length (row_of rows l) ≡ length (list_of s.watches l) = are.long l in
        let low : k < length (list_of s.watches l) = omega (arith, within, long) in
        let id : ℕ = slice_index_or (list_of s.watches l) k 0 in
        let watches : Watches s id l = stored.only l id (Contains-get_or (list_of s.watches l) k 0 low) in
        let there : Contains watches.clause (blocker_at rows l k) = are.there l k low watches.clause watches.is_live in
        let over_one : variable (blocker_at rows l k) ≤ s.vars =
        All-contains (λ m. variable m ≤ s.vars) watches.clause (blocker_at rows l k)
        (stored.variables id watches.clause watches.is_live) there in
        let same : slice_index_or (row_of rows l) k d ≡ blocker_at rows l k = grind (arith, common_steps, within) in
        rw same over_one

-- and so are those of the entries of a list, of which each is a literal of its clause
pub entries_over : (vars : ℕ) (entries : List Watch) → IsWithin vars (blockers_of entries) → All (λ w. variable w.blocker ≤ vars) entries
entries_over vars entries within k d low = subst (λ (m : ℤ). variable m ≤ vars) (get_or-map (λ (w : Watch). w.blocker) entries k d (pos 1) low) (within k (pos 1) (rw length-map low))

pub entries_beside : (s now : Stored) (rows : List (List ℤ)) (l : ℤ) (entries : List Watch) → s ≡ now → AreBlockers s rows → blockers_of entries ≡ row_of rows l → AreBeside now l entries
entries_beside s now rows l entries view are is index d low =
    let same : blocker_at rows l index ≡ (slice_index_or entries index d).blocker =
    ap (λ (row : List ℤ). slice_index_or row index (pos 1)) (sym is)
    ∙ get_or-map (λ (w : Watch). w.blocker) entries index d (pos 1) low in
    let long : length entries ≡ length (list_of s.watches l) = sym (length-map entries (λ (w : Watch). w.blocker)) ∙ ap length is ∙ are.long l in
    subst (λ (x : Stored). IsLiteralOf x (slice_index_or (list_of x.watches l) index 0) (slice_index_or entries index d).blocker) view
    (subst (λ (m : ℤ). IsLiteralOf s (slice_index_or (list_of s.watches l) index 0) m) same (are.there l index (omega (arith, low, long))))

-- What is in a watch list is a live clause of at least two literals.
pub listed_long : (s : Stored) (l : ℤ) (index : ℕ) → IsStored s → index < length (list_of s.watches l) → IsLong s (slice_index_or (list_of s.watches l) index 0)
listed_long s l index stored inside =
    let watches : Watches s (slice_index_or (list_of s.watches l) index 0) l = stored.only l (slice_index_or (list_of s.watches l) index 0) (Contains-get_or (list_of s.watches l) index 0 inside) in
    record { clause = watches.clause; is_live = watches.is_live; long = watches.long }

pub listed_live : (s : Stored) (l : ℤ) (index : ℕ) → IsStored s → index < length (list_of s.watches l) → IsSome (live_in s (slice_index_or (list_of s.watches l) index 0))
listed_live s l index stored inside =
    let long : IsLong s (slice_index_or (list_of s.watches l) index 0) = listed_long s l index stored inside in
    let live : live_in s (slice_index_or (list_of s.watches l) index 0) ≡ Some long.clause = long.is_live in
    rw live refl

-- A clause that is found in a watch list can be moved from there.
pub found_movable : (s : Stored) (from to : ℤ) (id index : ℕ) → index < length (list_of s.watches from) →
    slice_index_or (list_of s.watches from) index 0 ≡ id →
    ((clause : List ℤ) → live_in s id ≡ Some clause → Contains clause to) → (Watches s id to → ⊥) →
    IsMovable s id from to index
found_movable s from to id index inside at there other = record { inside = inside; at_index = at; there = there; other = other }

pub found_moved : (s new : Stored) (from to : ℤ) (id index : ℕ) → IsMovable s id from to index →
    new ≡ rewatched s (slice_index_or (list_of s.watches from) index 0) from to index → (k : ℕ) ×
    IsMovable s id from to k × (new ≡ rewatched s id from to k)
found_moved s new from to id index movable is = (index, movable, is ∙ ap (λ (n : ℕ). rewatched s n from to index) movable.at_index)

besides_of : (p : WatchedPair) (l : ℤ) → (other_watch p l ≡ p.first) ⊎ (other_watch p l ≡ p.second)
besides_of p l = ⊎_elim (λ (e : p.first ≡ l). inr (rw (int_eq-same p.first l e) refl)) (λ (apart : p.first ≡ l → ⊥). inl (rw (int_eq-other p.first l apart) refl)) (cases_literal p.first l)

pub whole_moved : (vars : ℕ) (live : List Bool) (a a_new : Arranged) (id : ℕ) (from to : ℤ) (index : ℕ) → AreWhole vars live a
    → IsMovable (shown vars live a) id from to index → watching_of a_new ≡ watching_moved (watching_of a) id from to index
    → a_new.rows ≡ rows_moved a.rows from to index (other_watch (pair_of (block_at a.arena id)) from) → ArePermuted a.arena a_new.arena → AreWhole vars live a_new
whole_moved vars live a a_new id from to index whole movable w_is rows_is order =
    let s : Stored = shown vars live a in
    let m : ℤ = other_watch (pair_of (block_at a.arena id)) from in
    let watches : Watches s id from = movable_watches s id from to index whole.0 movable in
    let low : variable from ≤ s.vars = watched_variable s id from whole.0 watches in
    let to_low : variable to ≤ s.vars = All-contains (λ x. variable x ≤ s.vars) watches.clause to
    (whole.0.variables id watches.clause watches.is_live) (movable.there watches.clause watches.is_live) in
    let watched : (m ≡ (pair_at s.watches id).first) ⊎ (m ≡ (pair_at s.watches id).second) =
    subst (λ (p : WatchedPair). (m ≡ p.first) ⊎ (m ≡ p.second)) (sym (pair_block a id))
    (besides_of (pair_of (block_at a.arena id)) from) in
    let of : IsLiteralOf s id m = λ clause is. watched_in s id m clause whole.0 (record { clause = watches.clause; is_live = watches.is_live; long = watches.long; watched = watched }) is in
    let both : IsStored (rewatched s id from to index) ×
    AreBlockers (rewatched s id from to index) (rows_moved a.rows from to index m) = (
      stored_rewatched s id from to index whole.0 movable,
      blockers_moved s a.rows id from to m index whole.0 movable whole.1
          (rw whole.1.room (code_of-room from s.vars low)) (rw whole.1.room (code_of-room to s.vars to_low))
          (rw whole.0.room (code_of-room to s.vars to_low)) of,
    ) in
    let is : shown vars live a_new ≡ rewatched s id from to index = shown_moved vars live a a_new id from to index w_is order in (
      subst IsStored (sym is) both.0,
      subst (λ (x : Stored). AreBlockers x a_new.rows) (sym is) (subst (AreBlockers (rewatched s id from to index)) (sym rows_is) both.1),
      whole.2 ∙ moved_long a a_new id from to index w_is,
    )

-- the literal to take is one of the clause, and isn't watched
pub movable_block : (vars : ℕ) (live : List Bool) (a : Arranged) (now : Stored) (from to : ℤ) (index : ℕ) → shown vars live a ≡ now → IsStored (shown vars live a)
    → length live ≡ length a.arena → IsMovable now (slice_index_or (list_of now.watches from) index 0) from to index
    → Contains (block_at a.arena (slice_index_or (list_of (watching_of a) from) index 0)) to × IsNoneOf (pair_of (block_at a.arena (slice_index_or (list_of (watching_of a) from) index 0))) to
movable_block vars live a now from to index view stored same movable_now =
    let s : Stored = shown vars live a in
    let id : ℕ = slice_index_or (list_of s.watches from) index 0 in
    let movable : IsMovable s id from to index = subst (λ (x : Stored). IsMovable x (slice_index_or (list_of x.watches from) index 0) from to index) (sym view) movable_now in
    let watches : Watches s id from = movable_watches s id from to index stored movable in (
      Contains-permutation watches.clause (block_at a.arena id) to (live_permuted live a.arena id watches.clause same watches.is_live) (movable.there watches.clause watches.is_live),
      λ which. movable.other (record {
        clause = watches.clause;
        is_live = watches.is_live;
        long = watches.long;
        watched = subst (λ (p : WatchedPair). (to ≡ p.first) ⊎ (to ≡ p.second)) (sym (pair_block a id)) which;
      }),
    )

-- it has two literals
pub movable_two : (vars : ℕ) (live : List Bool) (a : Arranged) (now : Stored) (from to : ℤ) (index : ℕ) → shown vars live a ≡ now → IsStored (shown vars live a)
    → length live ≡ length a.arena → IsMovable now (slice_index_or (list_of now.watches from) index 0) from to index
    → 2 ≤ length (block_at a.arena (slice_index_or (list_of (watching_of a) from) index 0))
movable_two vars live a now from to index view stored same movable_now =
    let s : Stored = shown vars live a in
    let id : ℕ = slice_index_or (list_of s.watches from) index 0 in
    let movable : IsMovable s id from to index = subst (λ (x : Stored). IsMovable x (slice_index_or (list_of x.watches from) index 0) from to index) (sym view) movable_now in
    let watches : Watches s id from = movable_watches s id from to index stored movable in
    let all : length (block_at a.arena id) ≡ length watches.clause = length_permutation watches.clause (block_at a.arena id) (live_permuted live a.arena id watches.clause same watches.is_live) in
    let long : 2 ≤ length watches.clause = watches.long in
    omega (arith, all, long)

-- What `arranged` gives is the clause in another order.
pub block_order : (vars : ℕ) (live : List Bool) (a : Arranged) (now : Stored) (id : ℕ) (block clause : List ℤ) → shown vars live a ≡ now → length live ≡ length a.arena
    → block ≡ block_at a.arena id → live_in now id ≡ Some clause → IsPermutation clause block
block_order vars live a now id block clause view same block_is is = rw block_is (live_permuted live a.arena id clause same (subst (λ (x : Stored). live_in x id ≡ Some clause) (sym view) is))

-- In the order of codes it is the clause.
pub block_value : (vars : ℕ) (live : List Bool) (a : Arranged) (now : Stored) (id : ℕ) (block : List ℤ)
    → shown vars live a ≡ now → length live ≡ length a.arena → block ≡ block_at a.arena id → IsSome (live_in now id)
    → live_in now id ≡ Some (sorted block)
block_value vars live a now id block view same block_is some =
    let found : (clause : List ℤ) × (live_in now id ≡ Some clause) = some_is (live_in now id) some in
    let is : sorted (block_at a.arena id) ≡ found.0 = live_sorted live a.arena id found.0 same (subst (λ (x : Stored). live_in x id ≡ Some found.0) (sym view) found.1) in
    found.1 ∙ ap Some (sym is ∙ ap sorted (sym block_is))

pub block_long : (vars : ℕ) (live : List Bool) (a : Arranged) (now : Stored) (id : ℕ) (block clause : List ℤ) → shown vars live a ≡ now → length live ≡ length a.arena
    → block ≡ block_at a.arena id → live_in now id ≡ Some clause → length block ≡ length clause
block_long vars live a now id block clause view same block_is is = length_permutation clause block (block_order vars live a now id block clause view same block_is is)

pub block_front : (vars : ℕ) (live : List Bool) (a : Arranged) (now : Stored) (id : ℕ) (block : List ℤ) → shown vars live a ≡ now → length live ≡ length a.arena
    → block ≡ block_at a.arena id → IsLong now id → (2 ≤ length block) × (pair_of block ≡ pair_at now.watches id)
block_front vars live a now id block view same block_is long =
    let all : length block ≡ length long.clause = length_permutation long.clause block (block_order vars live a now id block long.clause view same block_is long.is_live) in
    (omega (arith, all, long.long), ap pair_of block_is ∙ sym (pair_block a id) ∙ ap (λ (x : Stored). pair_at x.watches id) view)

pub block_clause : (vars : ℕ) (live : List Bool) (a : Arranged) (now : Stored) (id : ℕ) (block : List ℤ) → shown vars live a ≡ now → IsStored now
    → length live ≡ length a.arena → block ≡ block_at a.arena id → IsSome (live_in now id) → IsClause block × IsWithin now.vars block
block_clause vars live a now id block view stored same block_is some =
    let found : (clause : List ℤ) × (live_in now id ≡ Some clause) = some_is (live_in now id) some in
    let order : IsPermutation found.0 block = block_order vars live a now id block found.0 view same block_is found.1 in
    (clause_permuted found.0 block order (stored.clauses id found.0 found.1), All-permutation (λ m. variable m ≤ now.vars) found.0 block order (stored.variables id found.0 found.1))
