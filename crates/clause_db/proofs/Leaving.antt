-- Deletion of a clause, and what contracts then see of the marks, the arena and the lists.
use Rattle.std.proofs.Common.{Bool, false, slice_set, Option, None, ◌≡◌, ℕ, ◌-◌, ◌<◌, ◌≤◌, ◌⊎◌, ℤ, List, [], length, slice_index_or, Some, sym, ap, ◌∙◌, subst, arith, refl}
use Rattle.std.specs.List.{swap_remove}
use Rattle.std.proofs.Math.Logic.{⊎_elim}
use Rattle.std.proofs.lemmas.List.{length-set, map-set}
use Rattle.cdcl_theory.specs.Codes.{code_of}
use Rattle.cdcl_theory.specs.CodeLaws.{code_of-room}
use Rattle.clause_db.specs.Watching.{watch_list_in, list_of, pair_of}
use Rattle.clause_db.specs.WatchingLaws.{listed-same, listed-other}
use Rattle.clause_db.specs.Stored.{Stored, live_at, live_in, Watches, IsStored}
use Rattle.clause_db.specs.StoredLaws.{live_inside}
use Rattle.clause_db.specs.Blockers.{IsLiteralOf}
use Rattle.clause_db.specs.Arranging.{Arranged, clauses_of, shown}
use Rattle.clause_db.specs.Adding.{watched_variable}
use Rattle.clause_db.specs.Deleting.{HasLeft, IsDeleted, lists_left, arranged_left, arranged_without}
use Rattle.clause_db.specs.DeletingLaws.{was_live, stored_deleted}
use Rattle.clause_db.proofs.Shown.{clauses_set}
use Rattle.clause_db.proofs.Beside.{blockers_left, blockers_fewer}
use Rattle.clause_db.proofs.Databases.{AreWhole}

-- the clause that two literals watch left their lists
pub is_left : (vars : ℕ) (live : List Bool) (a : Arranged) (id : ℕ) (one other : ℤ) (index place : ℕ) → IsStored (shown vars live a) → Watches (shown vars live a) id one
    → Watches (shown vars live a) id other → (one ≡ other → ⊥) → ((l : ℤ) → Watches (shown vars live a) id l → (l ≡ one) ⊎ (l ≡ other))
    → index < length (watch_list_in a.lists one) → slice_index_or (watch_list_in a.lists one) index 0 ≡ id →
    place < length (watch_list_in a.lists other) → slice_index_or (watch_list_in a.lists other) place 0 ≡ id
    → IsDeleted id (shown vars live a) (shown vars (slice_set live (id - 1) false) (arranged_without (arranged_left (arranged_left a one index) other place) id))
is_left vars live a id one other index place stored w_one w_other apart only inside_one at_one inside_other at_other = record {
  vars = refl;
  clauses = clauses_set live a.arena (id - 1);
  pairs = map-set pair_of a.arena (id - 1) [];
  room = length-set (lists_left a.lists one index) (code_of other) _ ∙ length-set a.lists (code_of one) _;
  left = λ l watches. ⊎_elim
      (λ (e_one : l ≡ one). subst (λ (m : ℤ). HasLeft id (watch_list_in a.lists m) (watch_list_in (lists_left (lists_left a.lists one index) other place) m)) (sym e_one) left_one)
      (λ (e_other : l ≡ other). subst (λ (m : ℤ). HasLeft id (watch_list_in a.lists m) (watch_list_in (lists_left (lists_left a.lists one index) other place) m)) (sym e_other) left_other)
      (only l watches);
  others = λ l none.
      listed-other (lists_left a.lists one index) other l _ (λ e_other. none (subst (λ (m : ℤ). Watches (shown vars live a) id m) (sym e_other) w_other))
      ∙ listed-other a.lists one l _ (λ e_one. none (subst (λ (m : ℤ). Watches (shown vars live a) id m) (sym e_one) w_one));
}
  where
    room_of : (l : ℤ) → Watches (shown vars live a) id l → code_of l < length a.lists
    room_of l watches = rw stored.room (code_of-room l vars (watched_variable (shown vars live a) id l stored watches))

    left_one : HasLeft id (watch_list_in a.lists one) (watch_list_in (lists_left (lists_left a.lists one index) other place) one)
    left_one = record {
      index = index;
      inside = inside_one;
      at_index = at_one;
      is = listed-other (lists_left a.lists one index) other one _ apart ∙ listed-same a.lists one one _ (room_of one w_one) refl;
    }

    left_other : HasLeft id (watch_list_in a.lists other) (watch_list_in (lists_left (lists_left a.lists one index) other place) other)
    left_other = record {
      index = place;
      inside = inside_other;
      at_index = at_other;
      is = listed-same (lists_left a.lists one index) other other _ (rw length-set (room_of other w_other)) refl
          ∙ ap (λ (xs : List ℕ). swap_remove xs place 0) (listed-other a.lists one other _ (λ e_. apart (sym e_)));
    }

of_deleted : (vars : ℕ) (live : List Bool) (a b : Arranged) (id : ℕ) → 0 < id →
    b.arena ≡ slice_set a.arena (id - 1) [] → (k : ℕ) (m : ℤ) → IsLiteralOf (shown vars live a) k m →
    IsLiteralOf (shown vars (slice_set live (id - 1) false) b) k m
of_deleted vars live a b id some arena k m of = λ clause is.
    let clauses : clauses_of (slice_set live (id - 1) false) b.arena ≡
    slice_set (clauses_of live a.arena) (id - 1) None = ap (clauses_of (slice_set live (id - 1) false)) arena
    ∙ clauses_set live a.arena (id - 1) in
    of clause (was_live (clauses_of live a.arena) id k clause some (subst (λ (cs : List (Option (List ℤ))). live_at cs k ≡ Some clause) clauses is)).0

marks_left : (live : List Bool) (arena : List (List ℤ)) (k : ℕ) → length live ≡ length arena → length (slice_set live k false) ≡ length (slice_set arena k [])
marks_left live arena k same = length-set live k false ∙ same ∙ sym (length-set arena k [])

-- The invariant holds of what is left.
pub whole_left : (vars : ℕ) (live : List Bool) (a : Arranged) (id : ℕ) (clause : List ℤ) (one other : ℤ) (index place : ℕ) → AreWhole vars live a
    → live_in (shown vars live a) id ≡ Some clause → Watches (shown vars live a) id one → Watches (shown vars live a) id other → (one ≡ other → ⊥)
    → index < length (watch_list_in a.lists one) → place < length (watch_list_in a.lists other)
    → IsDeleted id (shown vars live a) (shown vars (slice_set live (id - 1) false) (arranged_without (arranged_left (arranged_left a one index) other place) id))
    → AreWhole vars (slice_set live (id - 1) false) (arranged_without (arranged_left (arranged_left a one index) other place) id)
whole_left vars live a id clause one other index place whole is w_one w_other apart inside_one inside_other deleted =
    let some : 0 < id = (live_inside (shown vars live a) id clause is).0 in (
      stored_deleted id (shown vars live a) (shown vars (slice_set live (id - 1) false) (arranged_without (arranged_left (arranged_left a one index) other place) id)) clause whole.0 is deleted,
      blockers_left (shown vars live a) (shown vars (slice_set live (id - 1) false)
          (arranged_without (arranged_left (arranged_left a one index) other place) id)) a.rows one other index place
          whole.0.room whole.1 refl refl
          (of_deleted vars live a (arranged_without (arranged_left (arranged_left a one index) other place) id) id some refl)
          (rw whole.0.room (code_of-room one vars (watched_variable (shown vars live a) id one whole.0 w_one)))
          (rw whole.0.room (code_of-room other vars (watched_variable (shown vars live a) id other whole.0 w_other))) (λ e_. apart (sym e_)) inside_one inside_other,
      marks_left live a.arena (id - 1) whole.2,
    )

-- A clause that watches nothing is in no list.
pub is_alone : (vars : ℕ) (live : List Bool) (a : Arranged) (id : ℕ) (clause : List ℤ) → live_in (shown vars live a) id ≡ Some clause → length clause < 2
    → IsDeleted id (shown vars live a) (shown vars (slice_set live (id - 1) false) (arranged_without a id))
is_alone vars live a id clause is short = record {
  vars = refl;
  clauses = clauses_set live a.arena (id - 1);
  pairs = map-set pair_of a.arena (id - 1) [];
  room = refl;
  left = λ l watches. absurd (none l watches);
  others = λ l not_watched. refl;
}
  where
    none : (l : ℤ) → Watches (shown vars live a) id l → ⊥
    none l watches =
        let live : live_in (shown vars live a) id ≡ Some watches.clause = watches.is_live in
        let same : watches.clause ≡ clause = cc in
        let long : 2 ≤ length watches.clause = watches.long in
        let n : length watches.clause ≡ length clause = ap length same in
        omega (arith, long, short, n)

pub whole_alone : (vars : ℕ) (live : List Bool) (a : Arranged) (id : ℕ) (clause : List ℤ) → AreWhole vars live a → live_in (shown vars live a) id ≡ Some clause
    → IsDeleted id (shown vars live a) (shown vars (slice_set live (id - 1) false) (arranged_without a id))
    → AreWhole vars (slice_set live (id - 1) false) (arranged_without a id)
whole_alone vars live a id clause whole is deleted =
    let some : 0 < id = (live_inside (shown vars live a) id clause is).0 in (
      stored_deleted id (shown vars live a) (shown vars (slice_set live (id - 1) false) (arranged_without a id)) clause whole.0 is deleted,
      blockers_fewer (shown vars live a) (shown vars (slice_set live (id - 1) false) (arranged_without a id)) a.rows whole.1 refl refl (of_deleted vars live a (arranged_without a id) id some refl),
      marks_left live a.arena (id - 1) whole.2,
    )

-- The same of what the type shows.
pub gone_alone : (vars : ℕ) (live : List Bool) (a : Arranged) (now : Stored) (id : ℕ) (clause : List ℤ) → shown vars live a ≡ now → AreWhole vars live a
    → live_in now id ≡ Some clause → length clause < 2
    → AreWhole vars (slice_set live (id - 1) false) (arranged_without a id) × IsDeleted id now (shown vars (slice_set live (id - 1) false) (arranged_without a id))
gone_alone vars live a now id clause view whole is short =
    let here : live_in (shown vars live a) id ≡ Some clause = subst (λ (x : Stored). live_in x id ≡ Some clause) (sym view) is in
    let deleted : IsDeleted id (shown vars live a) (shown vars (slice_set live (id - 1) false) (arranged_without a id)) = is_alone vars live a id clause here short in
    (whole_alone vars live a id clause whole here deleted, subst (λ (x : Stored). IsDeleted id x (shown vars (slice_set live (id - 1) false) (arranged_without a id))) view deleted)

pub gone_left : (vars : ℕ) (live : List Bool) (a : Arranged) (now : Stored) (id : ℕ) (clause : List ℤ) (one other : ℤ) (index place : ℕ) → shown vars live a ≡ now
    → AreWhole vars live a → live_in now id ≡ Some clause → Watches now id one → Watches now id other → (one ≡ other → ⊥)
    → ((l : ℤ) → Watches now id l → (l ≡ one) ⊎ (l ≡ other))
    → index < length (list_of now.watches one) → slice_index_or (list_of now.watches one) index 0 ≡ id →
    place < length (list_of now.watches other) → slice_index_or (list_of now.watches other) place 0 ≡ id
    → AreWhole vars (slice_set live (id - 1) false) (arranged_without (arranged_left (arranged_left a one index) other place) id)
    × IsDeleted id now (shown vars (slice_set live (id - 1) false) (arranged_without (arranged_left (arranged_left a one index) other place) id))
gone_left vars live a now id clause one other index place view whole is w_one w_other apart only inside_one at_one inside_other at_other =
    let s : Stored = shown vars live a in
    let here : live_in s id ≡ Some clause = subst (λ (x : Stored). live_in x id ≡ Some clause) (sym view) is in
    let first : Watches s id one = subst (λ (x : Stored). Watches x id one) (sym view) w_one in
    let second : Watches s id other = subst (λ (x : Stored). Watches x id other) (sym view) w_other in
    let all : (l : ℤ) → Watches s id l → (l ≡ one) ⊎ (l ≡ other) = λ l watches. only l (subst (λ (x : Stored). Watches x id l) view watches) in
    let in_one : index < length (list_of s.watches one) = subst (λ (x : Stored). index < length (list_of x.watches one)) (sym view) inside_one in
    let in_other : place < length (list_of s.watches other) = subst (λ (x : Stored). place < length (list_of x.watches other)) (sym view) inside_other in
    let is_one : slice_index_or (list_of s.watches one) index 0 ≡ id = subst (λ (x : Stored). slice_index_or (list_of x.watches one) index 0 ≡ id) (sym view) at_one in
    let is_other : slice_index_or (list_of s.watches other) place 0 ≡ id = subst (λ (x : Stored). slice_index_or (list_of x.watches other) place 0 ≡ id) (sym view) at_other in
    let deleted : IsDeleted id s (shown vars (slice_set live (id - 1) false) (arranged_without (arranged_left (arranged_left a one index) other place) id)) =
    is_left vars live a id one other index place whole.0 first second apart all in_one is_one in_other is_other in (
      whole_left vars live a id clause one other index place whole here first second apart in_one in_other deleted,
      subst (λ (x : Stored). IsDeleted id x (shown vars (slice_set live (id - 1) false) (arranged_without (arranged_left (arranged_left a one index) other place) id))) view deleted,
    )
