-- Moving a watch to another literal of its clause keeps the invariant.
use Rattle.std.specs.Prelude.{◌≡◌, ◌≢◌, ℕ, ◌-◌, ◌<◌, ◌≤◌, ◌⊎◌, ℤ, List, [], ◌∷◌, length, slice_index_or, slice_set, Contains, AllPairs, Some, refl}
use Rattle.std.proofs.Common.{sym, ap, ◌∙◌, subst, arith, inl, inr}
use Rattle.std.proofs.Math.Logic.{⊎_elim}
use Rattle.std.proofs.lemmas.Bool.{cases_eq}
use Rattle.std.proofs.lemmas.List.{length-set}
use Rattle.std.proofs.lemmas.List.Elements.{All-contains, Contains-push, Contains-push_cases, Contains-append_left, Contains-get_or}
use Rattle.std.proofs.lemmas.List.Quantifiers.{all_pairs_push}
use Rattle.sat_theory.specs.Formula.{variable}
use Rattle.cdcl_theory.specs.Codes.{code_of}
use Rattle.cdcl_theory.specs.CodeLaws.{cases_literal, code_of-room, int_eq-same, int_eq-other}
use Rattle.clause_db.specs.declared.watches.WatchedPair.{WatchedPair}
use Rattle.clause_db.specs.Watching.{list_of, pair_at, replaced}
use Rattle.clause_db.specs.WatchingLaws.{pair_moved, pair_kept, list_from, list_to}
use Rattle.clause_db.specs.WatchingLaws.{list_else, swap_keeps, swap_only, swap_once}
use Rattle.clause_db.specs.Stored.{Stored, live_in, Watches, IsPair, IsStored, rewatched}
use Rattle.clause_db.specs.StoredLaws.{live_inside}
use Rattle.clause_db.specs.Adding.{watched_in, watched_variable}

-- the watched literals after `to` replaced `from`
replaced_cases : (p : WatchedPair) (from to l : ℤ) → ((from ≡ p.first) ⊎ (from ≡ p.second)) →
    ((l ≡ (replaced p from to).first) ⊎ (l ≡ (replaced p from to).second)) → (l ≡ to) ⊎
    (((l ≡ p.first) ⊎ (l ≡ p.second)) × ((p.first ≡ p.second → ⊥) → l ≡ from → ⊥))
replaced_cases p from to l which is =
    ⊎_elim
    (λ (e : p.first ≡ from).
    let now : replaced p from to ≡ record { first = to; second = p.second } = rw (int_eq-same p.first from e) refl in
    ⊎_elim (λ (a : l ≡ to). inl a) (λ (a : l ≡ p.second). inr (inr a, λ differ same. differ (e ∙ sym same ∙ a))) (subst (λ (q : WatchedPair). (l ≡ q.first) ⊎ (l ≡ q.second)) now is))
    (λ (apart : p.first ≡ from → ⊥).
    let now : replaced p from to ≡ record { first = p.first; second = to } = rw (int_eq-other p.first from apart) refl in
    ⊎_elim (λ (a : l ≡ p.first). inr (inl a, λ differ same. apart (sym a ∙ same))) (λ (a : l ≡ to). inl a) (subst (λ (q : WatchedPair). (l ≡ q.first) ⊎ (l ≡ q.second)) now is))
    (cases_literal p.first from)

replaced_new : (p : WatchedPair) (from to : ℤ) → (to ≡ (replaced p from to).first) ⊎ (to ≡ (replaced p from to).second)
replaced_new p from to =
    ⊎_elim
    (λ (e : p.first ≡ from). subst (λ (q : WatchedPair). (to ≡ q.first) ⊎ (to ≡ q.second)) (sym (now_first e)) (inl refl))
    (λ (apart : p.first ≡ from → ⊥). subst (λ (q : WatchedPair). (to ≡ q.first) ⊎ (to ≡ q.second)) (sym (now_second apart)) (inr refl))
    (cases_literal p.first from)
  where
    now_first : p.first ≡ from → replaced p from to ≡ record { first = to; second = p.second }
    now_first e = rw (int_eq-same p.first from e) refl

    now_second : (p.first ≡ from → ⊥) → replaced p from to ≡ record { first = p.first; second = to }
    now_second apart = rw (int_eq-other p.first from apart) refl

replaced_other : (p : WatchedPair) (from to l : ℤ) → ((l ≡ p.first) ⊎ (l ≡ p.second)) → (l ≡ from → ⊥) →
    ((from ≡ p.first) ⊎ (from ≡ p.second)) → (l ≡ (replaced p from to).first) ⊎ (l ≡ (replaced p from to).second)
replaced_other p from to l is apart which =
    ⊎_elim
    (λ (e : p.first ≡ from). subst (λ (q : WatchedPair). (l ≡ q.first) ⊎ (l ≡ q.second)) (sym (now_first e)) (⊎_elim (λ (a : l ≡ p.first). absurd (apart (a ∙ e))) (λ (a : l ≡ p.second). inr a) is))
    (λ (other : p.first ≡ from → ⊥). subst (λ (q : WatchedPair). (l ≡ q.first) ⊎ (l ≡ q.second)) (sym (now_second other))
    (⊎_elim (λ (a : l ≡ p.first). inl a) (λ (a : l ≡ p.second). absurd (⊎_elim (λ (b : from ≡ p.first). other (sym b)) (λ (b : from ≡ p.second). apart (a ∙ sym b)) which)) is))
    (cases_literal p.first from)
  where
    now_first : p.first ≡ from → replaced p from to ≡ record { first = to; second = p.second }
    now_first e = rw (int_eq-same p.first from e) refl

    now_second : (p.first ≡ from → ⊥) → replaced p from to ≡ record { first = p.first; second = to }
    now_second apart = rw (int_eq-other p.first from apart) refl

replaced_differ : (p : WatchedPair) (from to : ℤ) → ((to ≡ p.first) ⊎ (to ≡ p.second) → ⊥) → (replaced p from to).first ≢ (replaced p from to).second
replaced_differ p from to other =
    ⊎_elim
    (λ (e : p.first ≡ from). subst (λ (q : WatchedPair). q.first ≢ q.second) (sym (now_first e)) (λ (same : to ≡ p.second). other (inr same)))
    (λ (apart : p.first ≡ from → ⊥). subst (λ (q : WatchedPair). q.first ≢ q.second) (sym (now_second apart)) (λ (same : p.first ≡ to). other (inl (sym same))))
    (cases_literal p.first from)
  where
    now_first : p.first ≡ from → replaced p from to ≡ record { first = to; second = p.second }
    now_first e = rw (int_eq-same p.first from e) refl

    now_second : (p.first ≡ from → ⊥) → replaced p from to ≡ record { first = p.first; second = to }
    now_second apart = rw (int_eq-other p.first from apart) refl

-- The clause with an id at an index in the watch list of `from` can watch another of its literals.
pub record IsMovable (s : Stored) (id : ℕ) (from to : ℤ) (index : ℕ) : Type 0 where
  pub inside : index < length (list_of s.watches from)
  pub at_index : slice_index_or (list_of s.watches from) index 0 ≡ id
  pub there : (clause : List ℤ) → live_in s id ≡ Some clause → Contains clause to
  pub other : Watches s id to → ⊥

pub movable_watches : (s : Stored) (id : ℕ) (from to : ℤ) (index : ℕ) → IsStored s → IsMovable s id from to index → Watches s id from
movable_watches s id from to index stored movable =
    subst (λ (k : ℕ). Watches s k from) movable.at_index
    (stored.only from (slice_index_or (list_of s.watches from) index 0)
    (Contains-get_or (list_of s.watches from) index 0 movable.inside))

-- each watch is an old one, except that of `to`
pub rewatched_old : (s : Stored) (id : ℕ) (from to : ℤ) (index k : ℕ) (l : ℤ) → IsStored s →
    IsMovable s id from to index → Watches (rewatched s id from to index) k l → Watches s k l ⊎ ((k ≡ id) × (l ≡ to))
rewatched_old s id from to index k l stored movable watches =
    let of_from : Watches s id from = movable_watches s id from to index stored movable in
    let low : (0 < id) × (id ≤ length s.clauses) = live_inside s id of_from.clause of_from.is_live in
    let low_k : (0 < k) × (k ≤ length s.clauses) = live_inside s k watches.clause watches.is_live in
    let room : length s.watches.pairs ≡ length s.clauses = stored.pairs_room in
    ⊎_elim
    (λ (e : k ≡ id).
    let pair : pair_at (rewatched s id from to index).watches k ≡ replaced (pair_at s.watches id) from to =
    ap (pair_at (rewatched s id from to index).watches) e
    ∙ pair_moved s.watches id from to index low.0 (omega (arith, low.1, room)) in
    ⊎_elim
    (λ (is : l ≡ to). inr (e, is))
    (λ (old : ((l ≡ (pair_at s.watches id).first) ⊎ (l ≡ (pair_at s.watches id).second)) × (((pair_at s.watches id).first ≡ (pair_at s.watches id).second → ⊥) → l ≡ from → ⊥)).
    inl (record { clause = watches.clause; is_live = watches.is_live; long = watches.long; watched = rw e old.0 }))
    (replaced_cases (pair_at s.watches id) from to l of_from.watched (subst (λ (p : WatchedPair). (l ≡ p.first) ⊎ (l ≡ p.second)) pair watches.watched)))
    (λ (apart : k ≡ id → ⊥).
    let pair : pair_at (rewatched s id from to index).watches k ≡ pair_at s.watches k = pair_kept s.watches id from to index k low.0 low_k.0 apart in
    inl (record { clause = watches.clause; is_live = watches.is_live; long = watches.long; watched = subst (λ (p : WatchedPair). (l ≡ p.first) ⊎ (l ≡ p.second)) pair watches.watched }))
    (cases_eq k id)

-- the clause no longer watches `from`
pub rewatched_gone : (s : Stored) (id : ℕ) (from to : ℤ) (index : ℕ) → IsStored s → IsMovable s id from to index → Watches (rewatched s id from to index) id from → ⊥
rewatched_gone s id from to index stored movable watches =
    let of_from : Watches s id from = movable_watches s id from to index stored movable in
    let low : (0 < id) × (id ≤ length s.clauses) = live_inside s id of_from.clause of_from.is_live in
    let room : length s.watches.pairs ≡ length s.clauses = stored.pairs_room in
    let pair : pair_at (rewatched s id from to index).watches id ≡ replaced (pair_at s.watches id) from to = pair_moved s.watches id from to index low.0 (omega (arith, low.1, room)) in
    ⊎_elim
    (λ (is : from ≡ to). movable.other (subst (λ (x : ℤ). Watches s id x) is of_from))
    (λ (old : ((from ≡ (pair_at s.watches id).first) ⊎ (from ≡ (pair_at s.watches id).second)) × (((pair_at s.watches id).first ≡ (pair_at s.watches id).second → ⊥) → from ≡ from → ⊥)).
    old.1 (stored.pairs id of_from.clause of_from.is_live of_from.long).differ refl)
    (replaced_cases (pair_at s.watches id) from to from of_from.watched (subst (λ (p : WatchedPair). (from ≡ p.first) ⊎ (from ≡ p.second)) pair watches.watched))

-- all other watches are kept
pub rewatched_kept : (s : Stored) (id : ℕ) (from to : ℤ) (index k : ℕ) (l : ℤ) → IsStored s →
    IsMovable s id from to index → Watches s k l → ((k ≡ id → ⊥) ⊎ (l ≡ from → ⊥)) →
    Watches (rewatched s id from to index) k l
rewatched_kept s id from to index k l stored movable watches apart =
    let of_from : Watches s id from = movable_watches s id from to index stored movable in
    let low : (0 < id) × (id ≤ length s.clauses) = live_inside s id of_from.clause of_from.is_live in
    let low_k : (0 < k) × (k ≤ length s.clauses) = live_inside s k watches.clause watches.is_live in
    let room : length s.watches.pairs ≡ length s.clauses = stored.pairs_room in
    ⊎_elim
    (λ (e : k ≡ id).
    let pair : pair_at (rewatched s id from to index).watches k ≡ replaced (pair_at s.watches id) from to =
    ap (pair_at (rewatched s id from to index).watches) e
    ∙ pair_moved s.watches id from to index low.0 (omega (arith, low.1, room)) in
    let not_from : l ≡ from → ⊥ = λ same. ⊎_elim (λ (other : k ≡ id → ⊥). other e) (λ (other : l ≡ from → ⊥). other same) apart in
    record {
      clause = watches.clause;
      is_live = watches.is_live;
      long = watches.long;
      watched = subst (λ (p : WatchedPair). (l ≡ p.first) ⊎
          (l ≡ p.second)) (sym pair) (replaced_other (pair_at s.watches id) from to l
          (subst (λ (n : ℕ). (l ≡ (pair_at s.watches n).first) ⊎ (l ≡ (pair_at s.watches n).second)) e watches.watched)
          not_from of_from.watched);
    })
    (λ (other : k ≡ id → ⊥).
    let pair : pair_at (rewatched s id from to index).watches k ≡ pair_at s.watches k = pair_kept s.watches id from to index k low.0 low_k.0 other in
    record { clause = watches.clause; is_live = watches.is_live; long = watches.long; watched = subst (λ (p : WatchedPair). (l ≡ p.first) ⊎ (l ≡ p.second)) (sym pair) watches.watched })
    (cases_eq k id)

-- and it watches `to`
pub rewatched_new : (s : Stored) (id : ℕ) (from to : ℤ) (index : ℕ) → IsStored s → IsMovable s id from to index → Watches (rewatched s id from to index) id to
rewatched_new s id from to index stored movable =
    let of_from : Watches s id from = movable_watches s id from to index stored movable in
    let low : (0 < id) × (id ≤ length s.clauses) = live_inside s id of_from.clause of_from.is_live in
    let room : length s.watches.pairs ≡ length s.clauses = stored.pairs_room in
    let pair : pair_at (rewatched s id from to index).watches id ≡ replaced (pair_at s.watches id) from to = pair_moved s.watches id from to index low.0 (omega (arith, low.1, room)) in
    record {
      clause = of_from.clause;
      is_live = of_from.is_live;
      long = of_from.long;
      watched = subst (λ (p : WatchedPair). (to ≡ p.first) ⊎
          (to ≡ p.second)) (sym pair) (replaced_new (pair_at s.watches id) from to);
    }

pub stored_rewatched : (s : Stored) (id : ℕ) (from to : ℤ) (index : ℕ) → IsStored s → IsMovable s id from to index → IsStored (rewatched s id from to index)
stored_rewatched s id from to index stored movable = record {
  clauses = stored.clauses;
  variables = stored.variables;
  few = stored.few;
  pairs_room = length-set s.watches.pairs (id - 1) (replaced (pair_at s.watches id) from to) ∙ stored.pairs_room;
  room = length-set (slice_set s.watches.lists (code_of to) _) (code_of from) _ ∙ length-set s.watches.lists (code_of to) _ ∙ stored.room;
  pairs = pairs;
  listed = listed;
  only = only;
  once = once;
}
  where
    new : Stored
    new = rewatched s id from to index

    of_from : Watches s id from
    of_from = movable_watches s id from to index stored movable

    low : (0 < id) × (id ≤ length s.clauses)
    low = live_inside s id of_from.clause of_from.is_live

    not_from : to ≡ from → ⊥
    not_from e = movable.other (subst (λ (x : ℤ). Watches s id x) (sym e) of_from)

    room_from : code_of from < length s.watches.lists
    room_from = rw stored.room (code_of-room from s.vars (watched_variable s id from stored of_from))

    to_in : Contains of_from.clause to
    to_in = movable.there of_from.clause of_from.is_live

    room_to : code_of to < length s.watches.lists
    room_to = rw stored.room (code_of-room to s.vars (All-contains (λ m. variable m ≤ s.vars) of_from.clause to (stored.variables id of_from.clause of_from.is_live) to_in))

    pairs : (k : ℕ) (clause : List ℤ) → live_in s k ≡ Some clause → 2 ≤ length clause → IsPair clause (pair_at new.watches k)
    pairs k clause is long = record {
      first = in_clause (pair_at new.watches k).first (inl refl);
      second = in_clause (pair_at new.watches k).second (inr refl);
      differ = differ;
    }
      where
        old : IsPair clause (pair_at s.watches k)
        old = stored.pairs k clause is long

        in_clause : (l : ℤ) → ((l ≡ (pair_at new.watches k).first) ⊎ (l ≡ (pair_at new.watches k).second)) → Contains clause l
        in_clause l which = ⊎_elim
            (λ (was : Watches s k l). watched_in s k l clause stored was is)
            (λ (moved : (k ≡ id) × (l ≡ to)). subst (λ (x : ℤ). Contains clause x) (sym moved.1) (movable.there clause (subst (λ (n : ℕ). live_in s n ≡ Some clause) moved.0 is)))
            (rewatched_old s id from to index k l stored movable (record { clause = clause; is_live = is; long = long; watched = which }))

        differ : (pair_at new.watches k).first ≢ (pair_at new.watches k).second
        differ = ⊎_elim
            (λ (e : k ≡ id).
            let room : length s.watches.pairs ≡ length s.clauses = stored.pairs_room in
            let pair : pair_at new.watches k ≡ replaced (pair_at s.watches id) from to = ap (pair_at new.watches) e ∙ pair_moved s.watches id from to index low.0 (omega (arith, low.1, room)) in
            subst (λ (p : WatchedPair). p.first ≢ p.second) (sym pair)
            (replaced_differ (pair_at s.watches id) from to (λ which.
            movable.other (record {
              clause = of_from.clause;
              is_live = of_from.is_live;
              long = of_from.long;
              watched = which;
            }))))
            (λ (apart : k ≡ id → ⊥). subst (λ (p : WatchedPair). p.first ≢ p.second) (sym (pair_kept s.watches id from to index k low.0 (live_inside s k clause is).0 apart)) old.differ)
            (cases_eq k id)

    listed : (l : ℤ) (k : ℕ) → Watches new k l → Contains (list_of new.watches l) k
    listed l k watches = ⊎_elim
        (λ (is : l ≡ from).
        let other : k ≡ id → ⊥ = λ e. rewatched_gone s id from to index stored movable (subst (λ (x : ℤ). Watches new id x) is (subst (λ (n : ℕ). Watches new n l) e watches)) in
        rw (list_from s.watches id from to index l room_from is)
        (swap_keeps (list_of s.watches from) index 0 k movable.inside (λ e. other (e ∙ movable.at_index))
        (subst (λ (x : ℤ). Contains (list_of s.watches x) k) is
        (stored.listed l k (was l k watches (λ e _. other e))))))
        (λ (apart : l ≡ from → ⊥). ⊎_elim
        (λ (is : l ≡ to). rw (list_to s.watches id from to index l room_to apart is) (⊎_elim
        (λ (e : k ≡ id). rw e (Contains-push (list_of s.watches to) id))
        (λ (other : k ≡ id → ⊥). Contains-append_left (list_of s.watches to) (id ∷ []) k
        (subst (λ (x : ℤ). Contains (list_of s.watches x) k) is
        (stored.listed l k (was l k watches (λ e _. other e)))))
        (cases_eq k id)))
        (λ (other : l ≡ to → ⊥). rw (list_else s.watches id from to index l apart other) (stored.listed l k (was l k watches (λ _ e. other e))))
        (cases_literal l to))
        (cases_literal l from)
      where
        was : (m : ℤ) (n : ℕ) → Watches new n m → (n ≡ id → m ≡ to → ⊥) → Watches s n m
        was m n now apart = ⊎_elim (λ (old : Watches s n m). old) (λ (moved : (n ≡ id) × (m ≡ to)). absurd (apart moved.0 moved.1)) (rewatched_old s id from to index n m stored movable now)

    only : (l : ℤ) (k : ℕ) → Contains (list_of new.watches l) k → Watches new k l
    only l k there = ⊎_elim
        (λ (is : l ≡ from).
        let both : Contains (list_of s.watches from) k × (k ≡ slice_index_or (list_of s.watches from) index 0 → ⊥) =
        swap_only (list_of s.watches from) index 0 k movable.inside (stored.once from)
        (subst (λ (xs : List ℕ). Contains xs k) (list_from s.watches id from to index l room_from is) there) in
        rewatched_kept s id from to index k l stored movable (subst (λ (x : ℤ). Watches s k x) (sym is) (stored.only from k both.0)) (inl (λ e. both.1 (e ∙ sym movable.at_index))))
        (λ (apart : l ≡ from → ⊥). ⊎_elim
        (λ (is : l ≡ to). ⊎_elim
        (λ (old : Contains (list_of s.watches to) k). rewatched_kept s id from to index k l stored movable (subst (λ (x : ℤ). Watches s k x) (sym is) (stored.only to k old)) (inr apart))
        (λ (e : id ≡ k). subst (λ (n : ℕ). Watches new n l) e (subst (λ (x : ℤ). Watches new id x) (sym is) (rewatched_new s id from to index stored movable)))
        (Contains-push_cases (list_of s.watches to) id k (subst (λ (xs : List ℕ). Contains xs k) (list_to s.watches id from to index l room_to apart is) there)))
        (λ (other : l ≡ to → ⊥). rewatched_kept s id from to index k l stored movable
        (stored.only l k (subst (λ (xs : List ℕ). Contains xs k) (list_else s.watches id from to index l apart other)
        there)) (inr apart))
        (cases_literal l to))
        (cases_literal l from)

    once : (l : ℤ) → AllPairs (λ a b. a ≢ b) (list_of new.watches l)
    once l = ⊎_elim
        (λ (is : l ≡ from). subst (λ (xs : List ℕ). AllPairs (λ a b. a ≢ b) xs)
        (sym (list_from s.watches id from to index l room_from is))
        (swap_once (list_of s.watches from) index 0 movable.inside (stored.once from)))
        (λ (apart : l ≡ from → ⊥). ⊎_elim
        (λ (is : l ≡ to). subst (λ (xs : List ℕ). AllPairs (λ a b. a ≢ b) xs) (sym (list_to s.watches id from to index l room_to apart is))
        (all_pairs_push (λ a b. a ≢ b) (list_of s.watches to) id (stored.once to) (λ k d within e.
        movable.other (subst (λ (n : ℕ). Watches s n to) e
        (stored.only to (slice_index_or (list_of s.watches to) k d)
        (Contains-get_or (list_of s.watches to) k d within))))))
        (λ (other : l ≡ to → ⊥). subst (λ (xs : List ℕ). AllPairs (λ a b. a ≢ b) xs) (sym (list_else s.watches id from to index l apart other)) (stored.once l))
        (cases_literal l to))
        (cases_literal l from)
