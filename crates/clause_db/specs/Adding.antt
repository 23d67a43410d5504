-- Adding a clause keeps the invariant, and says which watches there are then.
use Rattle.std.specs.Prelude.{◌≡◌, ◌≢◌, ℕ, ◌+◌, ◌-◌, ◌*◌, ◌<◌, ◌≤◌, ◌⊎◌, ℤ, pos, List, [], ◌∷◌, ◌++◌, length, slice_index_or, replicate, Contains, All, AllPairs, Option, Some, refl}
use Rattle.std.proofs.Common.{sym, ap, ◌∙◌, subst, arith, inl, inr}
use Rattle.std.proofs.Math.Logic.{⊎_elim}
use Rattle.std.proofs.lemmas.Bool.{cases_lt}
use Rattle.std.proofs.lemmas.List.{length_push, length-replicate}
use Rattle.std.proofs.lemmas.List.Elements.{All-contains, Contains-push, Contains-push_cases, Contains-append_left, Contains-get_or}
use Rattle.std.proofs.lemmas.List.Quantifiers.{all_pairs_push}
use Rattle.sat_theory.specs.Formula.{variable, IsClause, IsWithin}
use Rattle.cdcl_theory.specs.Codes.{code_of}
use Rattle.cdcl_theory.specs.CodeLaws.{code_of-room}
use Rattle.clause_db.specs.declared.watches.WatchedPair.{WatchedPair}
use Rattle.clause_db.specs.Watching.{Watching, list_of, pair_at, pair_of, HasRoom}
use Rattle.clause_db.specs.WatchingLaws.{pair_new, pair_old, lists_more}
use Rattle.clause_db.specs.WatchingLaws.{listed_none, short_lists}
use Rattle.clause_db.specs.WatchingLaws.{with_ids_room}
use Rattle.clause_db.specs.Sorted.{sorted}
use Rattle.clause_db.specs.SortedLaws.{Contains-sorted, clause_sorted, within_sorted, length-sorted}
use Rattle.clause_db.specs.Stored.{Stored, live_in, Watches, IsPair, IsStored, none_stored, added}
use Rattle.clause_db.specs.StoredLaws.{live_inside, live_added, added_new, added_old, live_in-add}

-- the literals of a clause have lists
pub rooms : (vars : ℕ) (w : Watching) (lits : List ℤ) → HasRoom vars w → IsWithin vars lits → All (λ l. code_of l < length w.lists) lits
rooms vars w lits room within k d low = rw room (code_of-room (slice_index_or lits k d) vars (within k d low))

pub stored_none : (vars : ℕ) → IsStored (none_stored vars)
stored_none vars = record {
  clauses = λ id clause is. absurd (none id clause is);
  variables = λ id clause is. absurd (none id clause is);
  few = omega arith;
  pairs_room = refl;
  room = length_replicate (2 * vars + 2);
  pairs = λ id clause is long. absurd (none id clause is);
  listed = λ l id watches. absurd (none id watches.clause watches.is_live);
  only = λ l id there. absurd (let low : there.0 < length (list_of (none_stored vars).watches l) = there.1 in
      (let e : list_of (none_stored vars).watches l ≡ [] = listed_none (2 * vars + 2) l in
      let h : length (list_of (none_stored vars).watches l) ≡ 0 = ap length e in omega (arith, low, h)));
  once = λ l i j d order within. absurd (let e : list_of (none_stored vars).watches l ≡ [] =
      listed_none (2 * vars + 2) l in let h : length (list_of (none_stored vars).watches l) ≡ 0 =
      ap length e in omega (arith, within, h));
}
  where
    none : (id : ℕ) (clause : List ℤ) → live_in (none_stored vars) id ≡ Some clause → ⊥
    none id clause is = (let low : (0 < id) × (id ≤ 0) = live_inside (none_stored vars) id clause is in omega (arith, low.0, low.1))

    length_replicate : (n : ℕ) → length (replicate {A = List ℕ} n []) ≡ n
    length_replicate n = length-replicate n []

pub first_in : (lits : List ℤ) → 2 ≤ length lits → Contains lits (pair_of lits).first
first_in lits long = Contains-get_or lits 0 (pos 1) (omega (arith, long))

pub second_in : (lits : List ℤ) → 2 ≤ length lits → Contains lits (pair_of lits).second
second_in lits long = Contains-get_or lits 1 (pos 1) (omega (arith, long))

pub two_differ : (lits : List ℤ) → IsClause lits → 2 ≤ length lits → (pair_of lits).first ≡ (pair_of lits).second → ⊥
two_differ lits clause long e = clause.differ 0 1 (pos 1) (omega arith) (omega (arith, long)) (ap variable e)

-- a watched literal is in its clause
pub watched_in : (s : Stored) (id : ℕ) (l : ℤ) (clause : List ℤ) → IsStored s → Watches s id l → live_in s id ≡ Some clause → Contains clause l
watched_in s id l clause stored watches is =
    let live : live_in s id ≡ Some watches.clause = watches.is_live in
    let same : watches.clause ≡ clause = cc in
    let pair : IsPair watches.clause (pair_at s.watches id) = stored.pairs id watches.clause live watches.long in
    subst (λ (c : List ℤ). Contains c l) same
    (⊎_elim (λ (e : l ≡ (pair_at s.watches id).first). subst (λ (x : ℤ). Contains watches.clause x) (sym e) pair.first)
    (λ (e : l ≡ (pair_at s.watches id).second). subst (λ (x : ℤ). Contains watches.clause x) (sym e) pair.second)
    watches.watched)

pub watched_variable : (s : Stored) (id : ℕ) (l : ℤ) → IsStored s → Watches s id l → variable l ≤ s.vars
watched_variable s id l stored watches = All-contains (λ m. variable m ≤ s.vars) watches.clause l
    (stored.variables id watches.clause watches.is_live)
    (watched_in s id l watches.clause stored watches watches.is_live)

-- the watch lists after a clause was added
pub added_lists : (s : Stored) (lits : List ℤ) (l : ℤ) → IsStored s → IsClause lits → IsWithin s.vars lits
    → ((2 ≤ length lits) × ((l ≡ (pair_of lits).first) ⊎ (l ≡ (pair_of lits).second)) ×
    (list_of (added s lits).watches l ≡ list_of s.watches l ++ (length s.clauses + 1) ∷ [])) ⊎
    (((2 ≤ length lits → (l ≡ (pair_of lits).first) ⊎ (l ≡ (pair_of lits).second) → ⊥)) ×
    (list_of (added s lits).watches l ≡ list_of s.watches l))
added_lists s lits l stored is_clause within = ⊎_elim
    (λ (short : length lits < 2). inr (λ long h. omega (arith, long, short), short_lists s.watches lits (length s.clauses + 1) l short))
    (λ (long : 2 ≤ length lits). lists_more s.watches lits (length s.clauses + 1) l
    (room_of (pair_of lits).first (first_in lits long)) (room_of (pair_of lits).second (second_in lits long))
    (two_differ lits is_clause long))
    (cases_lt (length lits) 2)
  where
    room_of : (m : ℤ) → Contains lits m → code_of m < length s.watches.lists
    room_of m there = All-contains (λ x. code_of x < length s.watches.lists) lits m (rooms s.vars s.watches lits stored.room within) there

long_of : (lits clause : List ℤ) → sorted lits ≡ clause → 2 ≤ length clause → 2 ≤ length lits
long_of lits clause is long = let same : length clause ≡ length lits = ap length (sym is) ∙ length-sorted lits in omega (arith, long, same)

pub stored_added : (s : Stored) (lits : List ℤ) → IsStored s → IsClause lits → IsWithin s.vars lits → length s.clauses < 4000000000 → IsStored (added s lits)
stored_added s lits stored is_clause within few = record {
  clauses = λ id clause is. ⊎_elim (λ (new : (id ≡ next) × (sorted lits ≡ clause)).
      subst IsClause new.1 (clause_sorted lits is_clause)) (λ (old : live_in s id ≡ Some clause).
      stored.clauses id clause old) (live_added s lits id clause is);
  variables = λ id clause is. ⊎_elim
      (λ (new : (id ≡ next) × (sorted lits ≡ clause)). subst (λ (c : List ℤ). IsWithin s.vars c) new.1 (within_sorted s.vars lits within))
      (λ (old : live_in s id ≡ Some clause). stored.variables id clause old)
      (live_added s lits id clause is);
  few = rw length_push (omega arith);
  pairs_room = length_push s.watches.pairs (pair_of lits) ∙ ap (λ (n : ℕ). n + 1) stored.pairs_room ∙ sym (length_push s.clauses (Some (sorted lits)));
  room = lists_room;
  pairs = λ id clause is long. ⊎_elim
      (λ (new : (id ≡ next) × (sorted lits ≡ clause)). rw (new.0, pair_next) (subst (λ (c : List ℤ). IsPair c (pair_of lits)) new.1 (own_pair (long_of lits clause new.1 long))))
      (λ (old : live_in s id ≡ Some clause). rw (pair_before id clause old) (stored.pairs id clause old long))
      (live_added s lits id clause is);
  listed = listed;
  only = only;
  once = once;
}
  where
    next : ℕ
    next = length s.clauses + 1

    pair_next : pair_at (added s lits).watches next ≡ pair_of lits
    pair_next = pair_new s.watches lits next (ap (λ (n : ℕ). n + 1) stored.pairs_room)

    pair_before : (id : ℕ) (clause : List ℤ) → live_in s id ≡ Some clause → pair_at (added s lits).watches id ≡ pair_at s.watches id
    pair_before id clause is = (let low : (0 < id) × (id ≤ length s.clauses) = live_inside s id clause is in
        let room : length s.watches.pairs ≡ length s.clauses =
        stored.pairs_room in pair_old s.watches lits next id low.0 (omega (arith, low.1, room)))

    own_pair : 2 ≤ length lits → IsPair (sorted lits) (pair_of lits)
    own_pair long = record {
      first = Contains-sorted lits (pair_of lits).first (first_in lits long);
      second = Contains-sorted lits (pair_of lits).second (second_in lits long);
      differ =
          two_differ lits is_clause long;
    }

    lists_room : HasRoom s.vars (added s lits).watches
    lists_room = with_ids_room s.watches lits next ∙ stored.room

    before : (id : ℕ) (l : ℤ) → Watches s id l → Watches (added s lits) id l
    before id l watches = record {
      clause = watches.clause;
      is_live = ap (λ (g : ℕ → Option (List ℤ)). g id) (live_in-add s lits) ∙ added_old s (sorted lits) id watches.clause watches.is_live;
      long = watches.long;
      watched = rw (pair_before id watches.clause watches.is_live) watches.watched;
    }

    new_one : (l : ℤ) → 2 ≤ length lits → (l ≡ (pair_of lits).first) ⊎ (l ≡ (pair_of lits).second) → Watches (added s lits) next l
    new_one l long which = record {
      clause = sorted lits;
      is_live = ap (λ (g : ℕ → Option (List ℤ)). g next) (live_in-add s lits) ∙ added_new (live_in s) next (sorted lits);
      long = rw length-sorted long;
      watched = rw pair_next which;
    }

    cases : (l : ℤ) → ((2 ≤ length lits) × ((l ≡ (pair_of lits).first) ⊎ (l ≡ (pair_of lits).second)) ×
        (list_of (added s lits).watches l ≡ list_of s.watches l ++ next ∷ [])) ⊎
        (((2 ≤ length lits → (l ≡ (pair_of lits).first) ⊎ (l ≡ (pair_of lits).second) → ⊥)) ×
        (list_of (added s lits).watches l ≡ list_of s.watches l))
    cases l = added_lists s lits l stored is_clause within

    watches_cases : (id : ℕ) (l : ℤ) → Watches (added s lits) id l → ((id ≡ next) × (2 ≤ length lits) × ((l ≡ (pair_of lits).first) ⊎ (l ≡ (pair_of lits).second))) ⊎ Watches s id l
    watches_cases id l watches = ⊎_elim
        (λ (new : (id ≡ next) × (sorted lits ≡ watches.clause)).
        let at_next : pair_at (added s lits).watches id ≡ pair_of lits = ap (pair_at (added s lits).watches) new.0 ∙ pair_next in
        inl (new.0, long_of lits watches.clause new.1 watches.long, subst (λ (p : WatchedPair). (l ≡ p.first) ⊎ (l ≡ p.second)) at_next watches.watched))
        (λ (old : live_in s id ≡ Some watches.clause). inr (record {
          clause = watches.clause;
          is_live = old;
          long = watches.long;
          watched = subst (λ (p : WatchedPair). (l ≡ p.first) ⊎
              (l ≡ p.second)) (pair_before id watches.clause old) watches.watched;
        }))
        (live_added s lits id watches.clause watches.is_live)

    listed : (l : ℤ) (id : ℕ) → Watches (added s lits) id l → Contains (list_of (added s lits).watches l) id
    listed l id watches =
        elim (cases l) [
          | inl here ↦
              (⊎_elim
              (λ (new : (id ≡ next) × (2 ≤ length lits) × ((l ≡ (pair_of lits).first) ⊎ (l ≡ (pair_of lits).second))). rw (here.2, new.0) (Contains-push (list_of s.watches l) next))
              (λ (old : Watches s id l). rw here.2 (Contains-append_left (list_of s.watches l) (next ∷ []) id (stored.listed l id old)))
              (watches_cases id l watches))
          | inr other ↦
              (⊎_elim
              (λ (new : (id ≡ next) × (2 ≤ length lits) × ((l ≡ (pair_of lits).first) ⊎ (l ≡ (pair_of lits).second))). absurd (other.0 new.1 new.2))
              (λ (old : Watches s id l). rw other.1 (stored.listed l id old))
              (watches_cases id l watches))
        ]

    only : (l : ℤ) (id : ℕ) → Contains (list_of (added s lits).watches l) id → Watches (added s lits) id l
    only l id there =
        elim (cases l) [
          | inl here ↦
              (⊎_elim
              (λ (old : Contains (list_of s.watches l) id). before id l (stored.only l id old))
              (λ (e : next ≡ id). subst (λ (k : ℕ). Watches (added s lits) k l) e (new_one l here.0 here.1))
              (Contains-push_cases (list_of s.watches l) next id (subst (λ (xs : List ℕ). Contains xs id) here.2 there)))
          | inr other ↦ before id l (stored.only l id (subst (λ (xs : List ℕ). Contains xs id) other.1 there))
        ]

    below : (l : ℤ) (k d : ℕ) → k < length (list_of s.watches l) → slice_index_or (list_of s.watches l) k d ≢ next
    below l k d low e =
        let watches : Watches s (slice_index_or (list_of s.watches l) k d) l = stored.only l (slice_index_or (list_of s.watches l) k d) (Contains-get_or (list_of s.watches l) k d low) in
        let inside : (0 < slice_index_or (list_of s.watches l) k d) ×
        (slice_index_or (list_of s.watches l) k d ≤ length s.clauses) =
        live_inside s (slice_index_or (list_of s.watches l) k d) watches.clause watches.is_live in
        let under : slice_index_or (list_of s.watches l) k d ≤ length s.clauses = inside.1 in
        omega (arith, e, under)

    once : (l : ℤ) → AllPairs (λ a b. a ≢ b) (list_of (added s lits).watches l)
    once l =
        elim (cases l) [
          | inl here ↦ subst (λ (xs : List ℕ). AllPairs (λ a b. a ≢ b) xs) (sym here.2) (all_pairs_push (λ a b. a ≢ b) (list_of s.watches l) next (stored.once l) (below l))
          | inr other ↦ subst (λ (xs : List ℕ). AllPairs (λ a b. a ≢ b) xs) (sym other.1) (stored.once l)
        ]

-- the watched literals after a clause was added
pub added_watches : (s : Stored) (lits : List ℤ) (id : ℕ) (l : ℤ) → IsStored s → Watches (added s lits) id l →
    ((id ≡ length s.clauses + 1) × (2 ≤ length lits) × ((l ≡ (pair_of lits).first) ⊎ (l ≡ (pair_of lits).second))) ⊎
    Watches s id l
added_watches s lits id l stored watches = ⊎_elim
    (λ (new : (id ≡ length s.clauses + 1) × (sorted lits ≡ watches.clause)).
    let at_next : pair_at (added s lits).watches id ≡ pair_of lits =
    ap (pair_at (added s lits).watches) new.0 ∙ pair_new s.watches lits (length s.clauses + 1)
    (ap (λ (n : ℕ). n + 1) stored.pairs_room) in
    inl (new.0, long_of lits watches.clause new.1 watches.long, subst (λ (p : WatchedPair). (l ≡ p.first) ⊎ (l ≡ p.second)) at_next watches.watched))
    (λ (old : live_in s id ≡ Some watches.clause).
    let low : (0 < id) × (id ≤ length s.clauses) = live_inside s id watches.clause old in
    let room : length s.watches.pairs ≡ length s.clauses = stored.pairs_room in
    inr (record {
      clause = watches.clause;
      is_live = old;
      long = watches.long;
      watched = subst (λ (p : WatchedPair). (l ≡ p.first) ⊎
          (l ≡ p.second)) (pair_old s.watches lits (length s.clauses + 1) id low.0 (omega (arith, low.1, room)))
          watches.watched;
    }))
    (live_added s lits id watches.clause watches.is_live)
