-- What keeps the watch invariant.
use Rattle.std.proofs.Common.{◌≡◌, ℕ, ◌+◌, ◌<◌, ◌≤◌, ◌⊎◌, ℤ, pos, List, [], ◌∷◌, ◌++◌, length, slice_index_or, Contains, All, Some, subst, sym, ap, ◌∙◌, arith, inl, inr, refl}
use Rattle.std.proofs.Math.Logic.{⊎_elim}
use Rattle.std.proofs.lemmas.Bool.{cases_lt, cases_eq}
use Rattle.std.proofs.lemmas.List.Elements.{All-contains, All-push, Contains-get_or}
use Rattle.sat_theory.specs.Formula.{opposite}
use Rattle.cdcl_theory.specs.CodeLaws.{opposite-opposite}
use Rattle.cdcl_theory.specs.Propagation.{IsFalsifiedUpTo, SameFalsified, IsSettled, AllSettled}
use Rattle.cdcl_theory.specs.Trails.{TrailState, falsified_at, IsTrail, IsBacktracked}
use Rattle.cdcl_theory.specs.TrailLaws.{falsified_at_index}
use Rattle.clause_db.specs.Watching.{pair_at, pair_of}
use Rattle.clause_db.specs.Sorted.{sorted}
use Rattle.clause_db.specs.SortedLaws.{Contains-sorted, length-sorted}
use Rattle.clause_db.specs.Stored.{Stored, live_in, Watches, IsPair, IsStored, added}
use Rattle.clause_db.specs.StoredLaws.{live_added, next_is_free}
use Rattle.clause_db.specs.Adding.{added_watches}
use Rattle.cdcl_core.specs.WatchInvariant.{HasTrue, IsBacked, IsTrueAtRoot, KeepsWatchInvariant, HasTrueAt}
use Rattle.cdcl_core.proofs.Judging.{settled_by_true}

-- with fewer propagated literals less is required
pub guarded_less : (s : Stored) (positions : ℤ → ℕ) (starts : List ℕ) (low high : ℕ) → low ≤ high → KeepsWatchInvariant s positions starts high → KeepsWatchInvariant s positions starts low
guarded_less s positions starts low high order guarded = record {
  long = λ id w clause watches is falsified. guarded.long id w clause watches is (falsified.0, (let h : positions w ≤ low = falsified.1 in omega (arith, h, order)));
  short = guarded.short;
}

-- the true literal of a clause still protects it when more are false,
backed_more : (f g : ℤ → ℕ) (starts : List ℕ) (n : ℕ) (clause : List ℤ) (w : ℤ) → SameFalsified n f g →
    ((l : ℤ) → f l ≤ n) → All (λ s. s ≤ n) starts → 0 < f w → IsBacked f starts clause w → IsBacked g starts clause w
backed_more f g starts n clause w same within low some backed = record {
  lit = backed.lit;
  there = backed.there;
  on = (same.there n (opposite backed.lit) (omega arith) (backed.on, within (opposite backed.lit))).0;
  together = λ k d inside before.
      let under : slice_index_or starts k d ≤ n = low k d inside in
      let some_now : 0 < g w = (same.there n w (omega arith) (some, within w)).0 in
      let was : IsFalsifiedUpTo f (slice_index_or starts k d) w = same.back (slice_index_or starts k d) w under (some_now, before) in
      let on_was : IsFalsifiedUpTo f (slice_index_or starts k d) (opposite backed.lit) = (backed.on, backed.together k d inside was.1) in
      (same.there (slice_index_or starts k d) (opposite backed.lit) under on_was).1;
}

good_more : (f g : ℤ → ℕ) (starts : List ℕ) (n : ℕ) (clause : List ℤ) → SameFalsified n f g → ((l : ℤ) → f l ≤ n) →
    All (λ s. s ≤ n) starts → IsTrueAtRoot f starts clause → IsTrueAtRoot g starts clause
good_more f g starts n clause same within low good = record {
  lit = good.lit;
  there = good.there;
  on = (same.there n (opposite good.lit) (omega arith) (good.on, within (opposite good.lit))).0;
  bottom = λ k d inside.
      let under : slice_index_or starts k d ≤ n = low k d inside in
      (same.there (slice_index_or starts k d) (opposite good.lit) under (good.on, good.bottom k d inside)).1;
}

-- The invariant is kept when literals become true and clauses watch others that aren't false.
pub guarded_moved : (a b : Stored) (f g : ℤ → ℕ) (starts : List ℕ) (n head : ℕ) → SameFalsified n f g →
    ((l : ℤ) → f l ≤ n) → head ≤ n → All (λ s. s ≤ head) starts → b.clauses ≡ a.clauses →
    ((id : ℕ) (w : ℤ) → Watches b id w → Watches a id w ⊎ (f w ≡ 0)) → KeepsWatchInvariant a f starts head →
    KeepsWatchInvariant b g starts head
guarded_moved a b f g starts n head same within high low clauses moved guarded = record {
  long = λ id w clause watches is falsified.
      let was : IsFalsifiedUpTo f head w = same.back head w high falsified in
      ⊎_elim
      (λ (old : Watches a id w). backed_more f g starts n clause w same within low_n was.0 (guarded.long id w clause old (live_before id clause is) was))
      (λ (up : f w ≡ 0). absurd (let some : 0 < f w = was.0 in omega (arith, some, up)))
      (moved id w watches);
  short = λ id clause is short. good_more f g starts n clause same within low_n (guarded.short id clause (live_before id clause is) short);
}
  where
    low_n : All (λ s. s ≤ n) starts
    low_n k d inside = (let h : slice_index_or starts k d ≤ head = low k d inside in omega (arith, h, high))

    live_before : (id : ℕ) (clause : List ℤ) → live_in b id ≡ Some clause → live_in a id ≡ Some clause
    live_before id clause is = sym (ap (λ (x : Stored). live_in x id) (same_live)) ∙ is
      where
        same_live : record a { clauses = b.clauses } ≡ a
        same_live = rw clauses refl

-- One trail literal more is propagated.
pub guarded_visited : (s : Stored) (t : TrailState) (starts : List ℕ) (head : ℕ) (l : ℤ) → IsTrail t →
    All (λ x. x ≤ head) starts → head < length t.lits → opposite (slice_index_or t.lits head l) ≡ l →
    ((id : ℕ) → Watches s id l → HasTrueAt s (falsified_at t) id) →
    KeepsWatchInvariant s (falsified_at t) starts head → KeepsWatchInvariant s (falsified_at t) starts (head + 1)
guarded_visited s t starts head l trail low inside at visited guarded = record {
  long = λ id w clause watches is falsified. ⊎_elim
      (λ (last : falsified_at t w ≡ head + 1).
      let same : w ≡ l = falsified_at_index t.lits (falsified_at t) head l w trail.positions last ∙ at in
      let on : HasTrue (falsified_at t) clause = visited id (subst (λ (x : ℤ). Watches s id x) same watches) clause is in
      record { lit = on.lit; there = on.there; on = on.on; together = λ k d within before. absurd (let h : slice_index_or starts k d ≤ head = low k d within in omega (arith, h, before, last)) })
      (λ (early : falsified_at t w ≡ head + 1 → ⊥). guarded.long id w clause watches is (falsified.0, (let h : falsified_at t w ≤ head + 1 = falsified.1 in omega (arith, h, early))))
      (cases_eq (falsified_at t w) (head + 1));
  short = guarded.short;
}

-- a true literal isn't false
true_up : (t : TrailState) (l : ℤ) → IsTrail t → 0 < falsified_at t (opposite l) → falsified_at t l ≡ 0
true_up t l trail on = ap (falsified_at t) (sym (opposite-opposite l)) ∙ trail.positions.one_side (opposite l) on

-- When all are propagated, all clauses are settled.
pub guarded_settled : (s : Stored) (t : TrailState) (starts : List ℕ) → IsStored s → IsTrail t → KeepsWatchInvariant s (falsified_at t) starts (length t.lits) → AllSettled (live_in s) (falsified_at t)
guarded_settled s t starts stored trail guarded =
    record {
      each = λ id clause is. ⊎_elim (λ (short : length clause < 2). settled_short id clause is short)
          (λ (long : 2 ≤ length clause). settled_long id clause is long) (cases_lt (length clause) 2);
    }
  where
    settled_short : (id : ℕ) (clause : List ℤ) → live_in s id ≡ Some clause → length clause < 2 → IsSettled (falsified_at t) clause
    settled_short id clause is short = (let good : IsTrueAtRoot (falsified_at t) starts clause =
        guarded.short id clause is short in settled_by_true (falsified_at t) clause good.lit good.there
        (true_up t good.lit trail good.on) good.on)

    watched_down : (id : ℕ) (clause : List ℤ) (w : ℤ) → live_in s id ≡ Some clause → Watches s id w → 0 < falsified_at t w → IsSettled (falsified_at t) clause
    watched_down id clause w is watches down = (let backed : IsBacked (falsified_at t) starts clause w =
        guarded.long id w clause watches is (down, trail.positions.within w) in
        settled_by_true (falsified_at t) clause backed.lit backed.there (true_up t backed.lit trail backed.on) backed.on)

    both_up : (clause : List ℤ) (a b : ℤ) → Contains clause a → Contains clause b → (a ≡ b → ⊥) → falsified_at t a ≡ 0 → falsified_at t b ≡ 0 → IsSettled (falsified_at t) clause
    both_up clause a b a_in b_in differ up_a up_b = record {
      not_false = λ all. (let down : 0 < falsified_at t a = All-contains (λ m. 0 < falsified_at t m) clause a all a_in in omega (arith, down, up_a));
      not_unit = λ u none free all.
          ⊎_elim
          (λ (a_is : a ≡ u). ⊎_elim (λ (b_is : b ≡ u). differ (a_is ∙ sym b_is)) (λ (down : 0 < falsified_at t b).
          omega (arith, down, up_b)) (All-contains (λ m. (m ≡ u) ⊎ (0 < falsified_at t m)) clause b all b_in))
          (λ (down : 0 < falsified_at t a). omega (arith, down, up_a))
          (All-contains (λ m. (m ≡ u) ⊎ (0 < falsified_at t m)) clause a all a_in);
    }

    settled_long : (id : ℕ) (clause : List ℤ) → live_in s id ≡ Some clause → 2 ≤ length clause → IsSettled (falsified_at t) clause
    settled_long id clause is long =
        let pair : IsPair clause (pair_at s.watches id) = stored.pairs id clause is long in
        let first : Watches s id (pair_at s.watches id).first = record { clause = clause; is_live = is; long = long; watched = inl refl } in
        let second : Watches s id (pair_at s.watches id).second = record { clause = clause; is_live = is; long = long; watched = inr refl } in
        ⊎_elim
        (λ (down : 0 < falsified_at t (pair_at s.watches id).first). watched_down id clause (pair_at s.watches id).first is first down)
        (λ (up : falsified_at t (pair_at s.watches id).first ≤ 0). ⊎_elim
        (λ (down : 0 < falsified_at t (pair_at s.watches id).second). watched_down id clause (pair_at s.watches id).second is second down)
        (λ (up_too : falsified_at t (pair_at s.watches id).second ≤ 0). both_up clause (pair_at s.watches id).first
        (pair_at s.watches id).second pair.first pair.second pair.differ (omega (arith, up)) (omega (arith, up_too)))
        (cases_lt 0 (falsified_at t (pair_at s.watches id).second)))
        (cases_lt 0 (falsified_at t (pair_at s.watches id).first))

-- Backtracking to the start of a level keeps the invariant, with all that is left propagated.
pub guarded_back : (s : Stored) (t back : TrailState) (starts fewer : List ℕ) (head n : ℕ) → n ≤ head →
    Contains starts n → All (λ x. x < n) fewer →
    ((k d : ℕ) → k < length fewer → Contains starts (slice_index_or fewer k d)) → IsBacktracked n t back →
    KeepsWatchInvariant s (falsified_at t) starts head → KeepsWatchInvariant s (falsified_at back) fewer n
guarded_back s t back starts fewer head n low there under front is_back guarded = record {
  long = λ id w clause watches is falsified.
      let was : IsFalsifiedUpTo (falsified_at t) n w = is_back.same.back n w (omega arith) falsified in
      let backed : IsBacked (falsified_at t) starts clause w = guarded.long id w clause watches is (was.0, (let h : falsified_at t w ≤ n = was.1 in omega (arith, h, low))) in
      let on : falsified_at t (opposite backed.lit) ≤ n = All-contains (λ x. falsified_at t w ≤ x → falsified_at t (opposite backed.lit) ≤ x) starts n backed.together there was.1 in
      record {
        lit = backed.lit;
        there = backed.there;
        on = (is_back.same.there n (opposite backed.lit) (omega arith) (backed.on, on)).0;
        together = λ k d inside before.
            let x : ℕ = slice_index_or fewer k d in
            let below : slice_index_or fewer k d < n = under k d inside in
            let early : IsFalsifiedUpTo (falsified_at t) (slice_index_or fewer k d) w = is_back.same.back (slice_index_or fewer k d) w (omega (arith, below)) (falsified.0, before) in
            let on_early : falsified_at t (opposite backed.lit) ≤ slice_index_or fewer k d =
            All-contains (λ y. falsified_at t w ≤ y → falsified_at t (opposite backed.lit) ≤ y) starts
            (slice_index_or fewer k d) backed.together (front k d inside) early.1 in
            (is_back.same.there (slice_index_or fewer k d) (opposite backed.lit) (omega (arith, below)) (backed.on, on_early)).1;
      };
  short = λ id clause is short.
      let good : IsTrueAtRoot (falsified_at t) starts clause = guarded.short id clause is short in
      let on : falsified_at t (opposite good.lit) ≤ n = All-contains (λ x. falsified_at t (opposite good.lit) ≤ x) starts n good.bottom there in
      record {
        lit = good.lit;
        there = good.there;
        on = (is_back.same.there n (opposite good.lit) (omega arith) (good.on, on)).0;
        bottom = λ k d inside.
            let below : slice_index_or fewer k d < n = under k d inside in
            let early : falsified_at t (opposite good.lit) ≤ slice_index_or fewer k d =
            All-contains (λ x. falsified_at t (opposite good.lit) ≤ x) starts (slice_index_or fewer k d) good.bottom
            (front k d inside) in
            (is_back.same.there (slice_index_or fewer k d) (opposite good.lit) (omega (arith, below)) (good.on, early)).1;
      };
}

-- A level may begin where all is propagated.
pub guarded_decided : (s : Stored) (t : TrailState) (starts : List ℕ) → IsTrail t →
    KeepsWatchInvariant s (falsified_at t) starts (length t.lits) →
    KeepsWatchInvariant s (falsified_at t) (starts ++ length t.lits ∷ []) (length t.lits)
guarded_decided s t starts trail guarded = record {
  long = λ id w clause watches is falsified.
      let backed : IsBacked (falsified_at t) starts clause w = guarded.long id w clause watches is falsified in
      record {
        lit = backed.lit;
        there = backed.there;
        on = backed.on;
        together = All-push (λ x. falsified_at t w ≤ x → falsified_at t (opposite backed.lit) ≤ x) starts
            (length t.lits) backed.together (λ _. trail.positions.within (opposite backed.lit));
      };
  short = λ id clause is short.
      let good : IsTrueAtRoot (falsified_at t) starts clause = guarded.short id clause is short in
      record {
        lit = good.lit;
        there = good.there;
        on = good.on;
        bottom = All-push (λ x. falsified_at t (opposite good.lit) ≤ x) starts (length t.lits) good.bottom
            (trail.positions.within (opposite good.lit));
      };
}

-- A learnt clause keeps the invariant: its first literal is true, and its second one became false last of the
-- others.
pub guarded_added : (s : Stored) (positions : ℤ → ℕ) (starts : List ℕ) (head : ℕ) (lits : List ℤ) → IsStored s →
    0 < length lits → 0 < positions (opposite (slice_index_or lits 0 (pos 1))) →
    positions (slice_index_or lits 0 (pos 1)) ≡ 0 →
    (length lits < 2 → All (λ x. positions (opposite (slice_index_or lits 0 (pos 1))) ≤ x) starts) →
    (2 ≤ length lits → All (λ x. x < positions (slice_index_or lits 1 (pos 1))) starts) →
    KeepsWatchInvariant s positions starts head → KeepsWatchInvariant (added s lits) positions starts head
guarded_added s positions starts head lits stored some on up bottom late guarded = record {
  long = λ id w clause watches is falsified. ⊎_elim
      (λ (new : (id ≡ length s.clauses + 1) × (2 ≤ length lits) × ((w ≡ (pair_of lits).first) ⊎ (w ≡ (pair_of lits).second))).
      ⊎_elim
      (λ (first : w ≡ slice_index_or lits 0 (pos 1)). absurd (let h : positions w ≡ 0 = ap positions first ∙ up in let down : 0 < positions w = falsified.0 in omega (arith, h, down)))
      (λ (second : w ≡ slice_index_or lits 1 (pos 1)). subst (λ (c : List ℤ). IsBacked positions starts c w) (is_lits id clause new.0 is) (record {
        lit = slice_index_or lits 0 (pos 1);
        there = Contains-sorted lits (slice_index_or lits 0 (pos 1)) (Contains-get_or lits 0 (pos 1) some);
        on = on;
        together = λ k d inside before. absurd (let h : slice_index_or starts k d < positions
            (slice_index_or lits 1 (pos 1)) = late new.1 k d inside in
            let e : positions w ≡ positions (slice_index_or lits 1 (pos 1)) =
            ap positions second in omega (arith, h, e, before));
      }))
      new.2)
      (λ (old : Watches s id w). guarded.long id w clause old (old_live id w clause old is) falsified)
      (added_watches s lits id w stored watches);
  short = λ id clause is short. ⊎_elim
      (λ (new : (id ≡ length s.clauses + 1) × (sorted lits ≡ clause)). subst (λ (c : List ℤ).
      IsTrueAtRoot positions starts c) new.1 (record {
        lit = slice_index_or lits 0 (pos 1);
        there = Contains-sorted lits (slice_index_or lits 0 (pos 1)) (Contains-get_or lits 0 (pos 1) some);
        on =
            on;
        bottom = bottom (let long : length lits ≡ length clause = sym (length-sorted lits) ∙ ap length new.1 in
            omega (arith, long, short));
      }))
      (λ (old : live_in s id ≡ Some clause). guarded.short id clause old short)
      (live_added s lits id clause is);
}
  where
    is_lits : (id : ℕ) (clause : List ℤ) → id ≡ length s.clauses + 1 → live_in (added s lits) id ≡ Some clause → sorted lits ≡ clause
    is_lits id clause e is = ⊎_elim (λ (new : (id ≡ length s.clauses + 1) × (sorted lits ≡ clause)). new.1)
        (λ (old : live_in s id ≡ Some clause). absurd (next_free id clause old e)) (live_added s lits id clause is)
      where
        next_free : (k : ℕ) (c : List ℤ) → live_in s k ≡ Some c → k ≡ length s.clauses + 1 → ⊥
        next_free k c is_c e_c = next_is_free s k c is_c e_c

    old_live : (id : ℕ) (w : ℤ) (clause : List ℤ) → Watches s id w → live_in (added s lits) id ≡ Some clause → live_in s id ≡ Some clause
    old_live id w clause old is = ⊎_elim (λ (new : (id ≡ length s.clauses + 1) ×
        (sorted lits ≡ clause)). absurd (next_is_free s id old.clause old.is_live new.0))
        (λ (same : live_in s id ≡ Some clause). same) (live_added s lits id clause is)
