-- The start of the resolution, and its result.
use Rattle.std.proofs.Common.{◌≡◌, ◌≢◌, ℕ, suc, ◌+◌, ◌-◌, ◌<◌, ◌≤◌, ◌⊎◌, ℤ, pos, Bool, true, List, [], ◌∷◌, ◌++◌}
use Rattle.std.proofs.Common.{length, take, reverse, slice_index_or, Contains, All, Option, Some, subst, sym, ap, ◌∙◌}
use Rattle.std.proofs.Common.{arith, inl, inr, refl}
use Rattle.std.proofs.Math.Logic.{⊎_elim}
use Rattle.std.proofs.lemmas.Bool.{both_ways, cases_lt, cases_eq}
use Rattle.std.proofs.lemmas.Grind.{common_steps}
use Rattle.std.proofs.lemmas.List.{take_more}
use Rattle.std.proofs.lemmas.List.Elements.{All-contains, All-cons, All-weaker, All-push, Contains-push, Contains-append_left}
use Rattle.std.proofs.lemmas.List.Kept.{AllPairs-cons}
use Rattle.std.proofs.lemmas.Bool.Decides.{nat_tests}
use Rattle.std.specs.Ordering.{ord_max, nat_cmp}
use Rattle.sat_theory.specs.Formula.{variable, opposite}
use Rattle.sat_theory.specs.Holding.{among, HintsHold}
use Rattle.cdcl_theory.specs.Codes.{marked_in}
use Rattle.cdcl_theory.specs.CodeLaws.{opposite-opposite, same_variable}
use Rattle.cdcl_theory.specs.Propagation.{IsFalsifiedUpTo, IsClosed, IsFalsified}
use Rattle.cdcl_theory.specs.Trails.{TrailState, falsified_at, IsTrail}
use Rattle.cdcl_theory.specs.TrailLaws.{place_at, true_not_falsified, falsified_at_index}
use Rattle.cdcl_theory.specs.ResolvingLaws.{derived_conflict, resolvent_holds}
use Rattle.trail_core.specs.Values.{IsOver}
use Rattle.conflict_core.specs.Markings.{AreMarked, AreOthers, IsMarkedClause, HasFalsifiedAt, IsListed, IsLastMarked, NoneMarked, OnlyBelow, IsResolution, IsClear}
use Rattle.conflict_core.specs.Learning.{IsLearnt}

-- The resolution starts with the falsified clause.
pub resolution_begun : (live : ℕ → Option (List ℤ)) (t : TrailState) (id : ℕ) (lits : List ℤ) (clear marks : List Bool)
    (touched : List ℤ) (none ids : List ℕ) → IsTrail t → IsClear t.vars clear → IsFalsified live (falsified_at t) id →
    live id ≡ Some lits → AreMarked (falsified_at t) lits clear marks → IsListed t.vars marks touched → none ≡ [] →
    ids ≡ none ++ id ∷ [] → IsResolution live t marks touched ids
resolution_begun live t id lits clear marks touched none ids trail is_clear is_falsified is marked listed empty ids_are = record {
  resolvent = record {
    below = λ m mark. ⊎_elim (λ (was : marked_in clear m ≡ true).
        absurd (both_ways (marked_in clear m) (is_clear.none m) was)) (λ (new : Contains lits m ×
        (0 < falsified_at t m)). (new.1, trail.positions.within m)) (marked.only m mark);
    derived = rw (ids_are, empty) (derived_conflict live (falsified_at t) (marked_in marks) id lits is (λ k d low. marked.there k d low (falsified k d low)));
  };
  listed = listed;
}
  where
    falsified : All (λ l. 0 < falsified_at t l) lits
    falsified =
        let here : live id ≡ Some is_falsified.clause = is_falsified.is_live in
        let same : is_falsified.clause ≡ lits = cc in
        subst (λ (c : List ℤ). All (λ l. 0 < falsified_at t l) c) same is_falsified.falsified

-- if nothing is marked from an index on, every marked literal was falsified before it
pub marked_low : (t : TrailState) (marks : List Bool) (start high : ℕ) (m : ℤ) → IsTrail t →
    NoneMarked t marks start high → 0 < falsified_at t m → falsified_at t m ≤ high → marked_in marks m ≡ true →
    falsified_at t m ≤ start
marked_low t marks start high m trail none some under is =
    ⊎_elim
    (λ (late : start < falsified_at t m).
    let found : slice_index_or t.lits (falsified_at t m - 1) m ≡ opposite m = trail.positions.found m m some in
    absurd (none (falsified_at t m - 1) m (omega arith) (omega arith) (rw (found, opposite-opposite) is)))
    (λ (older : falsified_at t m ≤ start). older)
    (cases_lt start (falsified_at t m))

-- A literal of the falsified clause became false in the level, since the state before it was closed.
pub conflict_in_level : (live : ℕ → Option (List ℤ)) (t : TrailState) (start id : ℕ) (marks : List Bool) → IsTrail t →
    start < length t.lits → IsClosed live (falsified_at t) start → IsFalsified live (falsified_at t) id →
    IsMarkedClause live marks id → NoneMarked t marks start (length t.lits) → ⊥
conflict_in_level live t start id marks trail level closed is_falsified marked none =
    closed.excludes u (record {
      not_false = λ down. (let up : falsified_at t u ≡ 0 = true_not_falsified t.lits (falsified_at t) start u u trail.positions level at in let some : 0 < falsified_at t u = down.0 in omega arith);
      not_true = λ down. (let late : falsified_at t (opposite u) ≡ start + 1 =
          place_at t.lits (falsified_at t) start u u trail.positions level at in
          let low : falsified_at t (opposite u) ≤ start = down.1 in omega arith);
    }) id is_falsified.clause is_falsified.is_live
    (λ k d low. inr (
      is_falsified.falsified k d low,
      marked_low t marks start (length t.lits) (slice_index_or is_falsified.clause k d) trail none
          (is_falsified.falsified k d low) (trail.positions.within (slice_index_or is_falsified.clause k d))
          (marked is_falsified.clause is_falsified.is_live k d low),
    ))
  where
    u : ℤ
    u = slice_index_or t.lits start (pos 0)

    at : slice_index_or t.lits start u ≡ u
    at = grind (arith, common_steps)

-- all marked literals but one were falsified up to an index
abbrev pub IsAlone : TrailState → ℕ → List Bool → ℤ → Type 0
IsAlone t start marks first = (m : ℤ) → marked_in marks m ≡ true → (m ≡ first) ⊎ (falsified_at t m ≤ start)

-- Of the level one literal is left.
pub alone_left : (live : ℕ → Option (List ℤ)) (t : TrailState) (start top : ℕ) (first : ℤ) (marks : List Bool)
    (touched : List ℤ) (ids : List ℕ) → IsTrail t → opposite (slice_index_or t.lits top first) ≡ first →
    IsResolution live t marks touched ids → IsLastMarked t marks start (length t.lits) top →
    NoneMarked t marks start top → IsAlone t start marks first
alone_left live t start top first marks touched ids trail at resolution last none m is =
    ⊎_elim
    (λ (here : falsified_at t m ≡ top + 1). inl (falsified_at_index t.lits (falsified_at t) top first m trail.positions here ∙ at))
    (λ (apart : falsified_at t m ≡ top + 1 → ⊥). inr (⊎_elim
    (λ (high : top + 1 < falsified_at t m). absurd (last.last (falsified_at t m - 1) m (omega arith) (omega arith) marked_there))
    (λ (low : falsified_at t m ≤ top + 1). marked_low t marks start top m trail none was.0 (omega arith) is)
    (cases_lt (top + 1) (falsified_at t m))))
    (cases_eq (falsified_at t m) (top + 1))
  where
    was : IsFalsifiedUpTo (falsified_at t) (length t.lits) m
    was = resolution.resolvent.below m is

    marked_there : marked_in marks (opposite (slice_index_or t.lits (falsified_at t m - 1) m)) ≡ true
    marked_there = rw (trail.positions.found m m was.0, opposite-opposite) is

-- others that are marked keep it so
pub alone_less : (t : TrailState) (start : ℕ) (old new : List Bool) (first : ℤ) → IsAlone t start old first → OnlyBelow t start old new → IsAlone t start new first
alone_less t start old new first alone only m is = ⊎_elim (λ (was : marked_in old m ≡ true). alone m was) (λ (low : falsified_at t m ≤ start). inr low) (only m is)

-- The final resolvent is the learnt clause.
pub resolution_learnt : (live : ℕ → Option (List ℤ)) (t : TrailState) (start top back : ℕ) (first : ℤ)
    (marks : List Bool) (touched lower lits : List ℤ) (ids hints : List ℕ) → IsTrail t → start ≤ top →
    top < length t.lits → opposite (slice_index_or t.lits top first) ≡ first → IsOver t.vars first →
    IsResolution live t marks touched ids → IsAlone t start marks first → AreOthers t.vars marks first lower →
    All (λ m. falsified_at t m ≤ back) lower → (0 < back → HasFalsifiedAt (falsified_at t) lower back) →
    ((d : ℤ) → 0 < length lower → falsified_at t (slice_index_or lower 0 d) ≡ back) → lits ≡ first ∷ lower →
    hints ≡ reverse ids → IsLearnt live t start lits back hints
resolution_learnt live t start top back first marks touched lower lits ids hints trail after within at over resolution
    alone others low there head lits_are hints_are = rw (lits_are, hints_are) (record {
      some = omega arith;
      after = omega (arith, trail_index);
      low = back_low (cases_lt 0 back);
      unit = record {
        free = record {
          not_false = λ down. (let older : falsified_at t first ≤ start = down.1 in omega (arith, trail_index));
          not_true = λ down. (let up : falsified_at t (opposite first) ≡ 0 =
              trail.positions.one_side first (omega (arith, trail_index)) in let some : 0 < falsified_at t (opposite first) =
              down.0 in omega arith);
        };
        others = All-cons (λ l. (l ≡ first) ⊎ IsFalsifiedUpTo (falsified_at t) start l) first lower (inl refl) (λ k d less. inr (down k d less, older k d less));
      };
      others = All-cons (λ l. (l ≡ first) ⊎ IsFalsifiedUpTo (falsified_at t) back l) first lower (inl refl) (λ k d less. inr (down k d less, low k d less));
      second = λ some. (let w = there some in (w.0, following w.0 w.1, w.2));
      next = λ d more. head d (let h : 1 < suc (length lower) = more in omega arith);
      clause = record {
        literals = All-cons (λ l. 0 < variable l) first lower over.0 (All-weaker (IsOver t.vars) (λ l. 0 < variable l) (λ l h. h.0) lower others.over);
        differ = AllPairs-cons (λ l m. variable l ≢ variable m) first lower
            (λ k d less same. apart first (slice_index_or lower k d) (omega (arith, trail_index)) (down k d less) (λ e. (others.inside k d less).1 (sym e)) same)
            (λ i j d less inside same. apart (slice_index_or lower i d) (slice_index_or lower j d) (down i d (omega arith)) (down j d inside) (others.differ i j d less inside) same);
      };
      variables = All-cons (λ l. variable l ≤ t.vars) first lower over.1 (All-weaker (IsOver t.vars) (λ l. variable l ≤ t.vars) (λ l h. h.1) lower others.over);
      hold = resolvent_holds live (falsified_at t) (length t.lits) (marked_in marks) ids
          (first ∷ lower) resolution.resolvent (λ m is. contained m (others.all m is))
          (All-cons (λ m. 0 < falsified_at t m) first lower (omega (arith, trail_index)) down);
    })
  where
    trail_index : falsified_at t first ≡ top + 1
    trail_index = subst (λ (x : ℤ). falsified_at t x ≡ top + 1) at (place_at t.lits (falsified_at t) top first (slice_index_or t.lits top first) trail.positions within refl)

    down : All (λ m. 0 < falsified_at t m) lower
    down = λ k d less. (resolution.resolvent.below (slice_index_or lower k d) (others.inside k d less).0).0

    older_of : (m : ℤ) → (m ≡ first → ⊥) → (m ≡ first) ⊎ (falsified_at t m ≤ start) → falsified_at t m ≤ start
    older_of m differs (inl same) = absurd (differs same)
    older_of m differs (inr is) = is

    older : All (λ m. falsified_at t m ≤ start) lower
    older = λ k d less. older_of (slice_index_or lower k d) (others.inside k d less).1 (alone (slice_index_or lower k d) (others.inside k d less).0)

    back_low : (0 < back) ⊎ (back ≤ 0) → back ≤ start
    back_low (inl some) = (let w = there some in let e : falsified_at t w.0 ≡ back = w.2 in
        let is_older : falsified_at t w.0 ≤ start = All-contains (λ m. falsified_at t m ≤ start) lower w.0 older w.1 in
        omega arith)
    back_low (inr zero_) = omega arith

    following : (w : ℤ) → Contains lower w → Contains (first ∷ lower) w
    following w (k, less, here) = (suc k, (let more : suc k < suc (length lower) = omega arith in more), here)

    contained : (m : ℤ) → (m ≡ first) ⊎ Contains lower m → Contains (first ∷ lower) m
    contained m (inl same) = (0, (let some : 0 < suc (length lower) = omega arith in some), sym same)
    contained m (inr inside) = following m inside

    apart : (a b : ℤ) → 0 < falsified_at t a → 0 < falsified_at t b → (a ≡ b → ⊥) → variable a ≡ variable b → ⊥
    apart a b down_a down_b differ same = ⊎_elim (λ (e : a ≡ b). differ e) (λ (e : a ≡ opposite b).
        (let up : falsified_at t (opposite b) ≡ 0 = trail.positions.one_side b down_b in
        let h : falsified_at t a ≡ falsified_at t (opposite b) = ap (falsified_at t) e in omega arith))
        (same_variable a b same)

-- Without decisions the final resolvent is the empty clause.
pub resolution_refuted : (live : ℕ → Option (List ℤ)) (t : TrailState) (marks : List Bool) (touched : List ℤ)
    (ids hints : List ℕ) → IsTrail t → IsResolution live t marks touched ids → NoneMarked t marks 0 (length t.lits) →
    hints ≡ reverse ids → HintsHold live (among []) hints
resolution_refuted live t marks touched ids hints trail resolution none are = rw are (resolvent_holds live (falsified_at t) (length t.lits) (marked_in marks) ids [] resolution.resolvent
    (λ m is. absurd (let was : IsFalsifiedUpTo (falsified_at t) (length t.lits) m = resolution.resolvent.below m is in
    let low : falsified_at t m ≤ 0 = marked_low t marks 0 (length t.lits) m trail none was.0 was.1 is in
    let some : 0 < falsified_at t m = was.0 in omega arith))
    (λ k d (less : k < 0). absurd (omega arith)))

-- the greatest position so far
pub falsified_more : (positions : ℤ → ℕ) (lits : List ℤ) (i back more : ℕ) (d l : ℤ) → i < length lits →
    slice_index_or lits i d ≡ l → All (λ m. positions m ≤ back) (take i lits) → back ≤ more → positions l ≤ more →
    All (λ m. positions m ≤ more) (take (i + 1) lits)
falsified_more positions lits i back more d l within at low grown new =
    rw (take_more lits i d within, at) (All-push (λ m. positions m ≤ more) (take i lits) l
    (All-weaker (λ m. positions m ≤ back) (λ m. positions m ≤ more) (λ m h. omega (arith, h, grown)) (take i lits) low)
    new)

pub falsified_there : (positions : ℤ → ℕ) (lits : List ℤ) (i back more : ℕ) (d l : ℤ) → i < length lits →
    slice_index_or lits i d ≡ l → (0 < back → HasFalsifiedAt positions (take i lits) back) → (more ≡ back) ⊎
    (more ≡ positions l) → 0 < more → HasFalsifiedAt positions (take (i + 1) lits) more
falsified_there positions lits i back more d l within at there (inl same) some =
    let w : HasFalsifiedAt positions (take i lits) back = there (omega arith) in
    rw (take_more lits i d within, at) ((w.0, Contains-append_left (take i lits) (l ∷ []) w.0 w.1, w.2 ∙ sym same))
falsified_there positions lits i back more d l within at there (inr new) some = rw (take_more lits i d within, at) ((l, Contains-push (take i lits) l, sym new))

-- the greater of two numbers
pub greater_is : (a b m : ℕ) → m ≡ ord_max nat_cmp a b → (a ≤ m) × (b ≤ m) × ((m ≡ a) ⊎ (m ≡ b))
greater_is a b m is = ⊎_elim (λ (less : a < b). (let e : m ≡ b = grind (arith, nat_tests, common_steps) in
    (omega arith, omega arith, inr e))) (λ (not_less : b ≤ a).
    ⊎_elim (λ (same : a ≡ b). (let e : m ≡ b = grind (arith, nat_tests, common_steps) in
    (omega arith, omega arith, inr e))) (λ (apart : a ≡ b → ⊥). (let e : m ≡ a =
    grind (arith, nat_tests, common_steps) in (omega arith, omega arith, inl e))) (cases_eq a b)) (cases_lt a b)
