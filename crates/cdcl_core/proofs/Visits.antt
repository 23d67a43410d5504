-- The steps of a visit.
use Rattle.std.proofs.Common.{◌≡◌, ℕ, ◌+◌, ◌-◌, ◌<◌, ◌≤◌, ◌⊎◌, ◌↔◌, ℤ, pos, List, length, slice_index_or, Contains, All, Option, Some, subst, sym, ap, ◌∙◌, arith, inl, inr, refl}
use Rattle.std.proofs.Math.Logic.{⊎_elim}
use Rattle.std.proofs.lemmas.Bool.{cases_eq, cases_lt}
use Rattle.std.proofs.lemmas.Grind.{common_steps}
use Rattle.std.proofs.lemmas.List.Elements.{All-contains, Contains-get_or}
use Rattle.sat_theory.specs.Formula.{variable, opposite, IsClause}
use Rattle.cdcl_theory.specs.Propagation.{Implies, IsFalsified}
use Rattle.cdcl_theory.specs.Trails.{TrailState, falsified_at, IsTrail, pushed, IsGrown}
use Rattle.clause_db.specs.Watching.{list_of, pair_of, pair_at}
use Rattle.clause_db.specs.WatchingLaws.{swap_other, swap_length, list_from}
use Rattle.std.specs.List.{swap_remove}
use Rattle.cdcl_theory.specs.Codes.{code_of}
use Rattle.cdcl_theory.specs.CodeLaws.{code_of-room}
use Rattle.clause_db.specs.Stored.{Stored, live_at, live_in, Watches, IsLong, IsStored, rewatched}
use Rattle.clause_db.specs.Blockers.{IsLiteralOf, AreBeside}
use Rattle.clause_db.specs.declared.lists.Watch.{Watch}
use Rattle.clause_db.specs.Lists.{no_watch}
use Rattle.clause_db.specs.Moving.{IsMovable, movable_watches, rewatched_old}
use Rattle.clause_db.specs.Adding.{watched_in, watched_variable}
use Rattle.cdcl_core.specs.WatchInvariant.{HasTrue, HasTrueAt, KeepsWatchInvariant}
use Rattle.cdcl_core.proofs.Guards.{guarded_moved, guarded_visited}
use Rattle.cdcl_core.specs.Visiting.{AreTrue, AreFalse, id_at, KeepsWatch, IsMoved, IsRest}
use Rattle.trail_core.specs.Values.{IsOver, IsFree}
use Rattle.cdcl_core.proofs.Growing.{grown_self, grown_trans, grown_pushed}
use Rattle.cdcl_core.proofs.Backjumps.{pushed_on}

-- the entry at an index of a literal's list watches it
pub entry_watches : (s : Stored) (l : ℤ) (index id : ℕ) → IsStored s → index < length (list_of s.watches l) → id ≡ id_at s l index → Watches s id l
entry_watches s l index id stored inside is = rw is (stored.only l (id_at s l index) (Contains-get_or (list_of s.watches l) index 0 inside))

pub watches_long : (s : Stored) (id : ℕ) (l : ℤ) → Watches s id l → IsLong s id
watches_long s id l watches = record { clause = watches.clause; is_live = watches.is_live; long = watches.long }

-- a true literal among the watched
pub true_at : (s : Stored) (positions : ℤ → ℕ) (id : ℕ) (l : ℤ) → IsStored s → Watches s id l → 0 < positions (opposite l) → HasTrueAt s positions id
true_at s positions id l stored watches on clause is = record { lit = l; there = watched_in s id l clause stored watches is; on = on }

-- the literals of a clause that watches l, the watched two first
pub record IsFront (s : Stored) (id : ℕ) (l : ℤ) (lits : List ℤ) : Type 0 where
  pub watches : Watches s id l
  pub same : (clause : List ℤ) → live_in s id ≡ Some clause → (m : ℤ) → Contains lits m ↔ Contains clause m
  pub long : 2 ≤ length lits
  pub pair : pair_of lits ≡ pair_at s.watches id
  pub is_clause : IsClause lits

pub front_at : (s : Stored) (l : ℤ) (index id : ℕ) (lits : List ℤ) → IsStored s →
    index < length (list_of s.watches l) → id ≡ id_at s l index →
    ((clause : List ℤ) → live_in s id ≡ Some clause → (m : ℤ) → Contains lits m ↔ Contains clause m) →
    (IsLong s id → (2 ≤ length lits) × (pair_of lits ≡ pair_at s.watches id)) → IsClause lits → IsFront s id l lits
front_at s l index id lits stored inside id_is same front is_clause =
    let watches : Watches s id l = entry_watches s l index id stored inside id_is in
    let both : (2 ≤ length lits) × (pair_of lits ≡ pair_at s.watches id) = front (watches_long s id l watches) in
    record { watches = watches; same = same; long = both.0; pair = both.1; is_clause = is_clause }

pub front_one : (s : Stored) (id : ℕ) (l : ℤ) (lits : List ℤ) → IsFront s id l lits → (l ≡ (pair_of lits).first) ⊎ (l ≡ (pair_of lits).second)
front_one s id l lits front = subst (λ p. (l ≡ p.first) ⊎ (l ≡ p.second)) (sym front.pair) front.watches.watched

-- the other one of the two
pub record IsOther (lits : List ℤ) (l other : ℤ) : Type 0 where
  pub watched : (other ≡ (pair_of lits).first) ⊎ (other ≡ (pair_of lits).second)
  pub only : (m : ℤ) → (m ≡ (pair_of lits).first) ⊎ (m ≡ (pair_of lits).second) → (m ≡ l) ⊎ (m ≡ other)

pub other_watches : (s : Stored) (id : ℕ) (l other : ℤ) (lits : List ℤ) → IsFront s id l lits → IsOther lits l other → Watches s id other
other_watches s id l other lits front is = record {
  clause = front.watches.clause;
  is_live = front.watches.is_live;
  long = front.watches.long;
  watched = subst (λ p. (other ≡ p.first) ⊎ (other ≡ p.second)) front.pair is.watched;
}

-- a literal after the first two isn't watched
after_two : (s : Stored) (id : ℕ) (l to : ℤ) (lits : List ℤ) (place : ℕ) → IsFront s id l lits → 2 ≤ place → place < length lits → ((d : ℤ) → slice_index_or lits place d ≡ to) → Watches s id to → ⊥
after_two s id l to lits place front after inside at watches = ⊎_elim
    (λ (e : to ≡ (pair_of lits).first). front.is_clause.differ 0 place (pos 1) (omega (arith, after)) inside (ap variable (sym e ∙ sym (at (pos 1)))))
    (λ (e : to ≡ (pair_of lits).second). front.is_clause.differ 1 place (pos 1) (omega (arith, after)) inside (ap variable (sym e ∙ sym (at (pos 1)))))
    (subst (λ p. (to ≡ p.first) ⊎ (to ≡ p.second)) (sym front.pair) watches.watched)

-- A literal after the first two can be watched in place of one of them.
pub movable_to : (s : Stored) (l to : ℤ) (index id : ℕ) (lits : List ℤ) (place : ℕ) →
    index < length (list_of s.watches l) → id ≡ id_at s l index → IsFront s id l lits → 2 ≤ place →
    place < length lits → ((d : ℤ) → slice_index_or lits place d ≡ to) → IsMovable s (id_at s l index) l to index
movable_to s l to index id lits place inside id_is front after within at = record {
  inside = inside;
  at_index = refl;
  there = λ clause live. (front.same clause (ap (live_in s) id_is ∙ live) to).0 (place, within, at to);
  other = λ watches. after_two s id l to lits place front after within at (subst (λ (k : ℕ). Watches s k to) (sym id_is) watches);
}

same_default : (xs : List ℤ) (j : ℕ) (a b : ℤ) → j < length xs → slice_index_or xs j a ≡ slice_index_or xs j b
same_default xs j a b within = grind (arith, common_steps)

-- a literal is one of the first two, or comes after them
first_or_after : (xs : List ℤ) (m : ℤ) (j : ℕ) → j < length xs → slice_index_or xs j m ≡ m → ((m ≡ (pair_of xs).first) ⊎ (m ≡ (pair_of xs).second)) ⊎ (2 ≤ j)
first_or_after xs m j within at =
    let here : m ≡ slice_index_or xs j (pos 1) = sym at ∙ same_default xs j m (pos 1) within in
    ⊎_elim
    (λ (low : j < 2). inl (⊎_elim
    (λ (e : j ≡ 0). inl (here ∙ ap (λ (n : ℕ). slice_index_or xs n (pos 1)) e))
    (λ (apart : j ≡ 0 → ⊥). inr (here ∙ ap (λ (n : ℕ). slice_index_or xs n (pos 1)) (let e : j ≡ 1 = omega (arith, low, apart) in e)))
    (cases_eq j 0)))
    (λ (high : 2 ≤ j). inr high)
    (cases_lt j 2)

-- If all after the first two are false, and one of these too, all but the other one are.
pub all_but : (s : Stored) (t : TrailState) (id : ℕ) (l other : ℤ) (lits clause : List ℤ) → IsFront s id l lits →
    IsOther lits l other → 0 < falsified_at t l → AreFalse t lits 2 (length lits) → live_in s id ≡ Some clause →
    All (λ m. (m ≡ other) ⊎ (0 < falsified_at t m)) clause
all_but s t id l other lits clause front is falsified down live k d low =
    let m : ℤ = slice_index_or clause k d in
    let there : Contains lits m = (front.same clause live m).1 (Contains-get_or clause k d low) in
    let within : there.0 < length lits = there.1 in
    ⊎_elim
    (λ (watched : (m ≡ (pair_of lits).first) ⊎ (m ≡ (pair_of lits).second)). ⊎_elim (λ (e : m ≡ l).
    inr (subst (λ (x : ℤ). 0 < falsified_at t x) (sym e) falsified)) (λ (e : m ≡ other). inl e) (is.only m watched))
    (λ (after : 2 ≤ there.0). inr (subst (λ (x : ℤ). 0 < falsified_at t x) there.2 (down there.0 m after within)))
    (first_or_after lits m there.0 within there.2)

-- the other watched literal can be the blocking one
pub blocks : (s : Stored) (l other : ℤ) (index id : ℕ) → IsStored s → id ≡ id_at s l index → Watches s id other → IsLiteralOf s (id_at s l index) other
blocks s l other index id stored id_is watches clause is = watched_in s id other clause stored watches (ap (live_in s) id_is ∙ is)

-- If all but one are false, that one follows, or the clause is falsified.
pub left_over : (positions : ℤ → ℕ) (lits : List ℤ) (other : ℤ) → 0 < positions other → All (λ m. (m ≡ other) ⊎ (0 < positions m)) lits → All (λ m. 0 < positions m) lits
left_over positions lits other down all k d low =
    ⊎_elim (λ (e : slice_index_or lits k d ≡ other). subst (λ (x : ℤ). 0 < positions x) (sym e) down)
    (λ (h : 0 < positions (slice_index_or lits k d)). h) (all k d low)

pub found_false : (s : Stored) (t : TrailState) (id : ℕ) (l other : ℤ) (lits : List ℤ) → IsFront s id l lits →
    IsOther lits l other → 0 < falsified_at t l → AreFalse t lits 2 (length lits) → 0 < falsified_at t other →
    IsFalsified (live_in s) (falsified_at t) id
found_false s t id l other lits front is falsified down off = record {
  clause = front.watches.clause;
  is_live = front.watches.is_live;
  falsified = left_over (falsified_at t) front.watches.clause other off (all_but s t id l other lits front.watches.clause front is falsified down front.watches.is_live);
}

pub others_imply : (live : ℕ → Option (List ℤ)) (t : TrailState) (id : ℕ) (lits : List ℤ) (other : ℤ) → IsTrail t →
    live id ≡ Some lits → Contains lits other → All (λ m. (m ≡ other) ⊎ (0 < falsified_at t m)) lits →
    Implies live (falsified_at t) (length t.lits) other id
others_imply live t id lits other trail is there all = record {
  clause = lits;
  is_live = is;
  there = there;
  others = λ k d low. ⊎_elim (λ (e : slice_index_or lits k d ≡ other). inl e)
      (λ (down : 0 < falsified_at t (slice_index_or lits k d)).
      inr (down, trail.positions.within (slice_index_or lits k d))) (all k d low);
}

-- what is true stays true while the trail grows
pub true_grown : (live : ℕ → Option (List ℤ)) (s : Stored) (a b : TrailState) (id : ℕ) → IsTrail a → IsGrown live a b → HasTrueAt s (falsified_at a) id → HasTrueAt s (falsified_at b) id
true_grown live s a b id trail grown on clause is =
    let was : HasTrue (falsified_at a) clause = on clause is in
    record { lit = was.lit; there = was.there; on = (grown.same.there (length a.lits) (opposite was.lit) (omega arith) (was.on, trail.positions.within (opposite was.lit))).0 }

-- and what isn't false wasn't before
pub up_before : (live : ℕ → Option (List ℤ)) (a b : TrailState) (l : ℤ) → IsTrail a → IsGrown live a b → falsified_at b l ≡ 0 → falsified_at a l ≡ 0
up_before live a b l trail grown up =
    ⊎_elim
    (λ (none : falsified_at a l ≡ 0). none)
    (λ (some : falsified_at a l ≡ 0 → ⊥). absurd (let now : 0 < falsified_at b l =
    (grown.same.there (length a.lits) l (omega arith) (omega (arith, some), trail.positions.within l)).0 in
    omega (arith, now, up)))
    (cases_eq (falsified_at a l) 0)

pub rest_kept : (a b c : Stored) (r s t : TrailState) (l : ℤ) (index : ℕ) → IsRest a b r s → KeepsWatch b c s t l index → IsRest a c r t
rest_kept a b c r s t l index rest kept = record {
  clauses = ap (λ (x : Stored). x.clauses) kept.same ∙ rest.clauses;
  vars = ap (λ (x : Stored). x.vars) kept.same ∙ rest.vars;
  grown = grown_trans (live_in c) r s t (subst (λ (x : Stored). IsGrown (live_in x) r s) (sym kept.same) rest.grown) kept.grown;
  moved = λ id w watches. rest.moved id w (subst (λ (x : Stored). Watches x id w) kept.same watches);
}

pub rest_moved : (a b c : Stored) (r s t : TrailState) (l : ℤ) (index : ℕ) → IsTrail r → IsStored b → IsRest a b r s → IsMoved b c s t l index → IsRest a c r t
rest_moved a b c r s t l index trail stored rest moved = rw (moved.is, moved.same) (record {
  clauses = rest.clauses;
  vars = rest.vars;
  grown = rest.grown;
  moved = λ id w watches. ⊎_elim
      (λ (old : Watches b id w). rest.moved id w old)
      (λ (new : (id ≡ id_at b l index) × (w ≡ moved.to)). inr (up_before (live_in b) r s w trail rest.grown (ap (falsified_at s) new.1 ∙ moved.up)))
      (rewatched_old b (id_at b l index) l moved.to index id w stored moved.movable watches);
})

-- Clauses whose blocking literals are true need no visit.
pub visited_open : (s : Stored) (t : TrailState) (l : ℤ) (watches : List Watch) (index open_at : ℕ) →
    AreBeside s l watches → AreTrue t watches index open_at → open_at ≤ length watches →
    ((k : ℕ) → k < index → HasTrueAt s (falsified_at t) (id_at s l k)) → (k : ℕ) → k < open_at →
    HasTrueAt s (falsified_at t) (id_at s l k)
visited_open s t l watches index open_at beside on low before k under =
    ⊎_elim
    (λ (old : k < index). before k old)
    (λ (new : index ≤ k). λ clause is. record { lit = (slice_index_or watches k no_watch).blocker; there = beside k no_watch (omega (arith, under, low)) clause is; on = on k no_watch new under })
    (cases_lt k index)

-- The visited entries stay visited.
pub visited_kept : (b c : Stored) (s t : TrailState) (l : ℤ) (index : ℕ) → IsTrail s → KeepsWatch b c s t l index →
    ((k : ℕ) → k < index → HasTrueAt b (falsified_at s) (id_at b l k)) → (k : ℕ) → k < index + 1 →
    HasTrueAt c (falsified_at t) (id_at c l k)
visited_kept b c s t l index trail kept before k low =
    ⊎_elim
    (λ (e : k ≡ index). rw e kept.on)
    (λ (apart : k ≡ index → ⊥). true_grown (live_in c) c s t (id_at c l k) trail kept.grown
    (subst (λ (x : Stored). HasTrueAt x (falsified_at s) (id_at x l k)) (sym kept.same)
    (before k (omega (arith, low, apart)))))
    (cases_eq k index)

list_room : (b : Stored) (l : ℤ) (id : ℕ) → Watches b id l → IsStored b → code_of l < length b.watches.lists
list_room b l id watches stored = rw stored.room (code_of-room l b.vars (watched_variable b id l stored watches))

moved_entry : (b : Stored) (l to : ℤ) (id index k : ℕ) → IsStored b → IsMovable b id l to index → k < index → id_at (rewatched b id l to index) l k ≡ id_at b l k
moved_entry b l to id index k stored movable low =
    ap (λ (xs : List ℕ). slice_index_or xs k 0) (list_from b.watches id l to index l
    (list_room b l id (movable_watches b id l to index stored movable) stored) refl)
    ∙ swap_other (list_of b.watches l) index 0 k 0 (let inside : index < length (list_of b.watches l) =
    movable.inside in omega (arith, inside, low)) (λ e. omega (arith, e, low))

pub visited_moved : (b c : Stored) (s t : TrailState) (l : ℤ) (index : ℕ) → IsStored b → IsMoved b c s t l index →
    ((k : ℕ) → k < index → HasTrueAt b (falsified_at s) (id_at b l k)) → (k : ℕ) → k < index →
    HasTrueAt c (falsified_at t) (id_at c l k)
visited_moved b c s t l index stored moved before k low =
    let same : id_at (rewatched b (id_at b l index) l moved.to index) l k ≡ id_at b l k = moved_entry b l moved.to (id_at b l index) index k stored moved.movable low in
    rw (moved.is, moved.same, same) (before k low)

-- the list is shorter by one
pub moved_shorter : (b c : Stored) (s t : TrailState) (l : ℤ) (index : ℕ) → IsStored b → IsMoved b c s t l index → length (list_of c.watches l) + 1 ≡ length (list_of b.watches l)
moved_shorter b c s t l index stored moved =
    let list : list_of (rewatched b (id_at b l index) l moved.to index).watches l ≡
    swap_remove (list_of b.watches l) index 0 =
    list_from b.watches (id_at b l index) l moved.to index l
    (list_room b l (id_at b l index) (movable_watches b (id_at b l index) l moved.to index stored moved.movable)
    stored) refl in
    let inside : index < length (list_of b.watches l) = moved.movable.inside in
    let long : length (list_of c.watches l) ≡ length (list_of b.watches l) - 1 =
    ap (λ (x : Stored). length (list_of x.watches l)) moved.is ∙ ap length list
    ∙ swap_length (list_of b.watches l) index 0 inside in
    omega (arith, long, inside)

-- a watched literal is one of the variables
pub watched_over : (s : Stored) (t : TrailState) (id : ℕ) (l : ℤ) → IsStored s → s.vars ≡ t.vars → Watches s id l → IsOver t.vars l
watched_over s t id l stored vars watches = (
  All-contains (λ m. 0 < variable m) watches.clause l (stored.clauses id watches.clause watches.is_live).literals
      (watched_in s id l watches.clause stored watches watches.is_live),
  (let low : variable l ≤ s.vars = watched_variable s id l stored watches in omega (arith, low, vars)),
)

-- The other watched literal is true.
pub kept_blocked : (s new : Stored) (t : TrailState) (l other : ℤ) (index id : ℕ) → IsStored s → id ≡ id_at s l index →
    Watches s id other → 0 < falsified_at t (opposite other) → new ≡ s → KeepsWatch s new t t l index
kept_blocked s new t l other index id stored id_is watches on new_is = rw new_is (record {
  same = refl;
  grown = grown_self (live_in s) t;
  on = subst (λ (k : ℕ). HasTrueAt s (falsified_at t) k) id_is (true_at s (falsified_at t) id other stored watches on);
})

-- The other watched literal is made true.
pub kept_pushed : (s : Stored) (t new : TrailState) (l other : ℤ) (index id : ℕ) (lits : List ℤ) → IsStored s →
    IsTrail t → s.vars ≡ t.vars → id ≡ id_at s l index → live_in s id ≡ Some lits → Watches s id other →
    IsFree t other → All (λ m. (m ≡ other) ⊎ (0 < falsified_at t m)) lits → new ≡ pushed t other id →
    KeepsWatch s s t new l index
kept_pushed s t new l other index id lits stored trail vars id_is is watches free all new_is =
    let over : IsOver t.vars other = watched_over s t id other stored vars watches in
    let there : Contains lits other = watched_in s id other lits stored watches is in
    let on : (falsified_at (pushed t other id) (opposite other) ≡ length t.lits + 1) × (falsified_at (pushed t other id) other ≡ 0) = pushed_on t other id trail over free in
    rw new_is (record {
      same = refl;
      grown = grown_pushed (live_in s) t other id trail over.1 free (others_imply (live_in s) t id lits other trail is there all);
      on = subst (λ (k : ℕ). HasTrueAt s (falsified_at (pushed t other id)) k) id_is (true_at s (falsified_at (pushed t other id)) id other stored watches (omega (arith, on.0)));
    })

-- With the whole list visited each clause that watches the literal has a true one.
pub visited_each : (s : Stored) (positions : ℤ → ℕ) (l : ℤ) (index : ℕ) → IsStored s →
    length (list_of s.watches l) ≤ index → ((k : ℕ) → k < index → HasTrueAt s positions (id_at s l k)) → (id : ℕ) →
    Watches s id l → HasTrueAt s positions id
visited_each s positions l index stored done visited id watches =
    let there : Contains (list_of s.watches l) id = stored.listed l id watches in
    let within : there.0 < length (list_of s.watches l) = there.1 in
    let same : id_at s l there.0 ≡ slice_index_or (list_of s.watches l) there.0 id = grind (arith, common_steps) in
    subst (λ (k : ℕ). HasTrueAt s positions k) (same ∙ there.2) (visited there.0 (omega (arith, within, done)))

-- one visit after another
pub rest_trans : (a b c : Stored) (r s t : TrailState) → IsTrail r → IsRest a b r s → IsRest b c s t → IsRest a c r t
rest_trans a b c r s t trail first second = record {
  clauses = second.clauses ∙ first.clauses;
  vars = second.vars ∙ first.vars;
  grown = grown_trans (live_in c) r s t (subst (λ (xs : List (Option (List ℤ))). IsGrown (live_at xs) r s) (sym second.clauses) first.grown) second.grown;
  moved = λ id w watches. ⊎_elim (λ (old : Watches b id w). first.moved id w old) (λ (up : falsified_at s w ≡ 0). inr (up_before (live_in b) r s w trail first.grown up)) (second.moved id w watches);
}

-- Visits keep the invariant,
pub guarded_rest : (a b : Stored) (s t : TrailState) (starts : List ℕ) (head : ℕ) → IsTrail s → head ≤ length s.lits →
    All (λ x. x ≤ head) starts → IsRest a b s t → KeepsWatchInvariant a (falsified_at s) starts head →
    KeepsWatchInvariant b (falsified_at t) starts head
guarded_rest a b s t starts head trail low begun rest guarded =
    guarded_moved a b (falsified_at s) (falsified_at t) starts (length s.lits) head rest.grown.same trail.positions.within low begun rest.clauses rest.moved guarded

-- with one more literal propagated.
pub guarded_next : (a b : Stored) (s t : TrailState) (starts : List ℕ) (from head : ℕ) (l : ℤ) → IsTrail s →
    IsTrail t → from ≤ head → head < length s.lits → opposite (slice_index_or s.lits head l) ≡ l →
    All (λ x. x ≤ from) starts → IsRest a b s t → ((id : ℕ) → Watches b id l → HasTrueAt b (falsified_at t) id) →
    KeepsWatchInvariant a (falsified_at s) starts head → KeepsWatchInvariant b (falsified_at t) starts (head + 1)
guarded_next a b s t starts from head l trail trail_now low inside at begun rest visited guarded =
    guarded_visited b t starts head l trail_now begun_head (let longer : length s.lits ≤ length t.lits =
    rest.grown.longer in omega (arith, inside, longer)) (ap opposite (rest.grown.lits head l inside)
    ∙ at) visited (guarded_rest a b s t starts head trail (omega (arith, inside)) begun_head rest guarded)
  where
    begun_head : All (λ x. x ≤ head) starts
    begun_head k d within = (let h : slice_index_or starts k d ≤ from = begun k d within in omega (arith, h, low))
