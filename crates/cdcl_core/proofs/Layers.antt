-- Propagation, decisions and backjumps keep the invariant of decision levels.
use Rattle.std.proofs.Common.{◌≡◌, ℕ, ◌+◌, ◌-◌, ◌<◌, ◌≤◌, ◌⊎◌, ℤ, pos, List, [], ◌∷◌, ◌++◌, length, slice_index_or, Contains, All, AllPairs, Option, Some, subst, sym, ap, ◌∙◌, arith, inl, inr}
use Rattle.std.proofs.Math.Logic.{⊎_elim}
use Rattle.std.proofs.lemmas.Bool.{cases_lt, cases_eq}
use Rattle.std.proofs.lemmas.List.{length_push, get_or_append_left, get_or_push}
use Rattle.std.proofs.lemmas.List.Elements.{All-push, All-contains, Contains-append_left, Contains-push, Contains-push_cases, Contains-get_or}
use Rattle.std.proofs.lemmas.List.Quantifiers.{all_pairs_push}
use Rattle.sat_theory.specs.Formula.{variable, opposite}
use Rattle.sat_theory.specs.State.{with_clause}
use Rattle.cdcl_theory.specs.Propagation.{IsFalsifiedUpTo, Implies, SameFalsified, IsClosed, AllSettled}
use Rattle.cdcl_theory.specs.PropagationLaws.{implies_kept, implies_more, closed_kept, closed_added, settled_closed}
use Rattle.cdcl_theory.specs.Trails.{TrailState, falsified_at, reason_of, IsTrail, pushed, HasReason, IsGrown, IsBacktracked, IsLayered}
use Rattle.cdcl_theory.specs.TrailLaws.{trail_push}
use Rattle.trail_core.specs.Values.{IsOver, IsFree}
use Rattle.clause_db.specs.Sorted.{sorted}
use Rattle.clause_db.specs.SortedLaws.{Contains-sorted, All-sorted}
use Rattle.clause_db.specs.Stored.{Stored, live_in, added}
use Rattle.clause_db.specs.StoredLaws.{live_in-add, added_old, added_new}
use Rattle.conflict_core.specs.Learning.{IsLearnt, asserting, HaveReasons}
use Rattle.cdcl_core.specs.Levels.{IsDropped, IsLastStart}
use Rattle.cdcl_core.proofs.Growing.{same_pushed, reason_other, reason_new, reason_pushed, reason_last}

-- a level begins at a literal of the trail
start_inside : (live : ℕ → Option (List ℤ)) (t : TrailState) (starts : List ℕ) (p : ℕ) → IsLayered live t starts → Contains starts p → p < length t.lits
start_inside live t starts p layered start = All-contains (λ s. s < length t.lits) starts p layered.inside start

-- Propagation keeps the levels.
pub layered_grown : (live : ℕ → Option (List ℤ)) (t new : TrailState) (starts : List ℕ) → IsLayered live t starts → IsGrown live t new → IsTrail new → IsLayered live new starts
layered_grown live t new starts layered grown trail = record {
  whole = trail;
  inside = λ k d low. (let h : slice_index_or starts k d < length t.lits = layered.inside k d low in let g : length t.lits ≤ length new.lits = grown.longer in omega arith);
  rising = layered.rising;
  closed = λ k d low. closed_kept live (length t.lits) (slice_index_or starts k d) (falsified_at t)
      (falsified_at new) grown.same (let h : slice_index_or starts k d < length t.lits = layered.inside k d low in
      omega arith) (layered.closed k d low);
  reasons = λ p within. ⊎_elim
      (λ (early : p < length t.lits). ⊎_elim (λ (start : Contains starts p). inl start) (λ (reason : HasReason live t p). inr (kept p early reason)) (layered.reasons p early))
      (λ (late : length t.lits ≤ p). inr (grown.new_reasons p late within))
      (cases_lt p (length t.lits));
  decisions = λ p d start. (let early : p < length t.lits = start_inside live t starts p layered start in
      ap (reason_of new) (grown.lits p d early) ∙ grown.old_reasons p d early ∙ layered.decisions p d start);
}
  where
    kept : (p : ℕ) → p < length t.lits → HasReason live t p → HasReason live new p
    kept p early reason = record {
      implied = λ d.
          rw (grown.lits p d early, grown.old_reasons p d early)
          (implies_kept live (length t.lits) p (falsified_at t) (falsified_at new) (slice_index_or t.lits p d) (reason_of t (slice_index_or t.lits p d)) grown.same (omega arith) (reason.implied d));
    }

-- A decision begins a level, where all clauses are settled.
pub layered_decided : (live : ℕ → Option (List ℤ)) (t : TrailState) (starts more : List ℕ) (l : ℤ) →
    IsLayered live t starts → AllSettled live (falsified_at t) → IsOver t.vars l → IsFree t l → more ≡ starts ++
    length t.lits ∷ [] → IsLayered live (pushed t l 0) more
layered_decided live t starts more l layered settled over free is = rw is (record {
  whole = trail_push t l 0 layered.whole over.0 over.1 free.0 free.1;
  inside = All-push (λ s. s < length (t.lits ++ l ∷ [])) starts (length t.lits) (λ k d low.
      (let h : slice_index_or starts k d < length t.lits = layered.inside k d low in rw length_push (omega arith)))
      (rw length_push (omega arith));
  rising = all_pairs_push (λ a b. a < b) starts (length t.lits) layered.rising layered.inside;
  closed = All-push (λ s. IsClosed live (falsified_at (pushed t l 0)) s) starts (length t.lits)
      (λ k d low. closed_kept live (length t.lits) (slice_index_or starts k d) (falsified_at t)
      (falsified_at (pushed t l 0)) same (let h : slice_index_or starts k d < length t.lits =
      layered.inside k d low in omega arith) (layered.closed k d low))
      (closed_kept live (length t.lits) (length t.lits) (falsified_at t) (falsified_at (pushed t l 0)) same
      (omega arith) (settled_closed live (falsified_at t) (length t.lits) layered.whole.positions.within settled));
  reasons = λ p within. ⊎_elim
      (λ (early : p < length t.lits). ⊎_elim (λ (start : Contains starts p).
      inl (Contains-append_left starts (length t.lits ∷ []) p start)) (λ (reason : HasReason live t p).
      inr (reason_pushed live t l 0 p layered.whole over.1 free early reason)) (layered.reasons p early))
      (λ (late : length t.lits ≤ p). inl (subst (λ (q : ℕ). Contains (starts ++ length t.lits ∷ []) q)
      (let long : length (t.lits ++ l ∷ []) ≡ length t.lits + 1 = length_push t.lits l in
      omega arith) (Contains-push starts (length t.lits))))
      (cases_lt p (length t.lits));
  decisions = λ p d start. ⊎_elim (λ (old : Contains starts p). reason_still p d old) (λ (new : length t.lits ≡ p). reason_here p d new) (Contains-push_cases starts (length t.lits) p start);
})
  where
    reason_still : (p : ℕ) (d : ℤ) → Contains starts p → reason_of (pushed t l 0) (slice_index_or (t.lits ++ l ∷ []) p d) ≡ 0
    reason_still p d old = (let early : p < length t.lits = start_inside live t starts p layered old in
        ap (reason_of (pushed t l 0)) (get_or_append_left t.lits (l ∷ []) d p early)
        ∙ reason_other t p 0 d l layered.whole early free ∙ layered.decisions p d old)

    reason_here : (p : ℕ) (d : ℤ) → length t.lits ≡ p → reason_of (pushed t l 0) (slice_index_or (t.lits ++ l ∷ []) p d) ≡ 0
    reason_here p d new = ap (reason_of (pushed t l 0)) (get_or_push t.lits l d p new) ∙ reason_new t 0 l layered.whole over.1

    same : SameFalsified (length t.lits) (falsified_at t) (falsified_at (pushed t l 0))
    same = same_pushed t l 0 layered.whole over.1 free.1

-- what became false after a position isn't false once the trail is cut back to it
pub back_gone : (n : ℕ) (t new : TrailState) (l : ℤ) → IsTrail new → IsBacktracked n t new → n < falsified_at t l → falsified_at new l ≡ 0
back_gone n t new l trail back late =
    ⊎_elim
    (λ (some : 0 < falsified_at new l).
    let high : falsified_at new l ≤ length new.lits = trail.positions.within l in
    let long : length new.lits ≡ n = back.short in
    let was : IsFalsifiedUpTo (falsified_at t) n l = back.same.back n l (omega arith) (some, omega arith) in
    let low : falsified_at t l ≤ n = was.1 in
    absurd (omega arith))
    (λ (none : falsified_at new l ≤ 0). omega arith)
    (cases_lt 0 (falsified_at new l))

pub back_up : (n : ℕ) (t new : TrailState) (l : ℤ) → IsTrail new → IsBacktracked n t new → falsified_at t l ≡ 0 → falsified_at new l ≡ 0
back_up n t new l trail back up =
    ⊎_elim
    (λ (some : 0 < falsified_at new l).
    let high : falsified_at new l ≤ length new.lits = trail.positions.within l in
    let long : length new.lits ≡ n = back.short in
    let was : IsFalsifiedUpTo (falsified_at t) n l = back.same.back n l (omega arith) (some, omega arith) in
    let low : 0 < falsified_at t l = was.0 in
    absurd (omega arith))
    (λ (none : falsified_at new l ≤ 0). omega arith)
    (cases_lt 0 (falsified_at new l))

-- After the backjump the learnt literal is free,
pub backjumped_free : (live : ℕ → Option (List ℤ)) (t back : TrailState) (start end place : ℕ) (lits : List ℤ)
    (hints : List ℕ) → IsTrail t → IsTrail back → IsLearnt live t start lits place hints → end ≤ start →
    IsBacktracked end t back → IsFree back (asserting lits)
backjumped_free live t back start end place lits hints trail trail_back learnt low is_back =
    let after : start < falsified_at t (asserting lits) = learnt.after in (
      back_gone end t back (asserting lits) trail_back is_back (omega arith),
      back_up end t back (opposite (asserting lits)) trail_back is_back
          (trail.positions.one_side (asserting lits) (omega arith)),
    )

-- and the learnt clause is its reason.
pub backjumped_reason : (live more : ℕ → Option (List ℤ)) (t back : TrailState) (start end place id : ℕ)
    (lits : List ℤ) (hints : List ℕ) → IsLearnt live t start lits place hints → place ≤ end →
    IsBacktracked end t back → more id ≡ Some (sorted lits) → Implies more (falsified_at back) end (asserting lits) id
backjumped_reason live more t back start end place id lits hints learnt low is_back is = record {
  clause = sorted lits;
  is_live = is;
  there = Contains-sorted lits (asserting lits) (Contains-get_or lits 0 (pos 0) learnt.some);
  others = All-sorted (λ m. (m ≡ asserting lits) ⊎ IsFalsifiedUpTo (falsified_at back) end m) lits (λ k d less. ⊎_elim
      (λ (e : slice_index_or lits k d ≡ asserting lits). inl e)
      (λ (down : IsFalsifiedUpTo (falsified_at t) place (slice_index_or lits k d)).
      inr (is_back.same.there end (slice_index_or lits k d) (omega arith) (
        down.0,
        (let h : falsified_at t (slice_index_or lits k d) ≤ place = down.1 in omega arith),
      )))
      (learnt.others k d less));
}

-- the first level that was dropped begins no later than the last
pub dropped_low : (starts fewer : List ℕ) (start place end : ℕ) → AllPairs (λ a b. a < b) starts →
    ((d : ℕ) → slice_index_or starts (length starts - 1) d ≡ start) → IsDropped place starts fewer end → end ≤ start
dropped_low starts fewer start place end rising last dropped =
    let f : length fewer < length starts = dropped.fewer in
    let at_end : slice_index_or starts (length fewer) 0 ≡ end = dropped.at 0 in
    let at_last : slice_index_or starts (length starts - 1) 0 ≡ start = last 0 in
    ⊎_elim
    (λ (e : length fewer ≡ length starts - 1). (let same : slice_index_or starts (length fewer) 0 ≡
    slice_index_or starts (length starts - 1) 0 = ap (λ (i : ℕ). slice_index_or starts i 0) e in omega arith))
    (λ (apart : length fewer ≡ length starts - 1 → ⊥).
    (let less : slice_index_or starts (length fewer) 0 < slice_index_or starts (length starts - 1) 0 =
    rising (length fewer) (length starts - 1) 0 (omega arith) (omega arith) in omega arith))
    (cases_eq (length fewer) (length starts - 1))

-- the state before the last level is closed, and after its decision all literals have reasons
pub closed_last : (live : ℕ → Option (List ℤ)) (t : TrailState) (starts : List ℕ) (start : ℕ) → IsLayered live t starts → IsLastStart starts start → IsClosed live (falsified_at t) start
closed_last live t starts start layered level = subst (IsClosed live (falsified_at t)) (level.last 0) (layered.closed (length starts - 1) 0 (let some : 0 < length starts = level.some in omega arith))

pub reasons_last : (live : ℕ → Option (List ℤ)) (t : TrailState) (starts : List ℕ) (start : ℕ) → IsLayered live t starts → IsLastStart starts start → HaveReasons live t (start + 1)
reasons_last live t starts start layered level p after within =
    ⊎_elim
    (λ (start_p : Contains starts p). absurd (not_after start_p.0 start_p.1 start_p.2))
    (λ (reason : HasReason live t p). reason)
    (layered.reasons p within)
  where
    not_after : (k : ℕ) → k < length starts → slice_index_or starts k p ≡ p → ⊥
    not_after k inside at =
        let at_last : slice_index_or starts (length starts - 1) p ≡ start = level.last p in
        ⊎_elim
        (λ (e : k ≡ length starts - 1). (let same : slice_index_or starts k p ≡
        slice_index_or starts (length starts - 1) p = ap (λ (i : ℕ). slice_index_or starts i p) e in
        omega (arith, same, at, at_last, after)))
        (λ (apart : k ≡ length starts - 1 → ⊥). (let less : slice_index_or starts k p < slice_index_or starts
        (length starts - 1) p = layered.rising k (length starts - 1) p (omega arith) (omega arith) in
        omega (arith, less, at, at_last, after)))
        (cases_eq k (length starts - 1))

-- The levels after a backjump: the learnt clause is live, the trail was cut back, and the learnt
-- literal is on it.
pub layered_backjumped : (live more : ℕ → Option (List ℤ)) (t back : TrailState) (starts fewer : List ℕ)
    (start end place id : ℕ) (lits : List ℤ) (hints : List ℕ) → more ≡ with_clause live id (sorted lits) →
    ((k : ℕ) (clause : List ℤ) → live k ≡ Some clause → more k ≡ Some clause) → more id ≡ Some (sorted lits) →
    IsLayered live t starts → IsLearnt live t start lits place hints →
    ((d : ℕ) → slice_index_or starts (length starts - 1) d ≡ start) → IsDropped place starts fewer end → IsTrail back →
    IsBacktracked end t back → IsOver t.vars (asserting lits) → IsLayered more (pushed back (asserting lits) id) fewer
layered_backjumped live more t back starts fewer start end place id lits hints is_more kept there layered learnt last dropped trail_back is_back over =
    record {
      whole = trail_push back u id trail_back over.0 small free.0 free.1;
      inside = λ k d less. (let h : slice_index_or fewer k d < place = dropped.low k d less in
          let long : length (back.lits ++ u ∷ []) ≡ length back.lits + 1 =
          length_push back.lits u in let short : length back.lits ≡ end = is_back.short in let high : place ≤ end =
          dropped.high in omega arith);
      rising = λ i j d less within. subst (λ (x : ℕ). x < slice_index_or fewer j d)
          (sym (dropped.front i d (omega arith))) (subst (λ (y : ℕ). slice_index_or starts i d < y)
          (sym (dropped.front j d within)) (layered.rising i j d less (let f : length fewer < length starts =
          dropped.fewer in omega arith)));
      closed = λ k d less. closed_now (slice_index_or fewer k d) (dropped.low k d less)
          (subst (IsClosed live (falsified_at t)) (sym (dropped.front k d less))
          (layered.closed k d (let f : length fewer < length starts = dropped.fewer in omega arith)));
      reasons = λ p within. ⊎_elim (λ (early : p < length back.lits). reasons_early p early)
          (λ (late : length back.lits ≤ p). inr (subst (HasReason more (pushed back u id))
          (let long : length (back.lits ++ u ∷ []) ≡ length back.lits + 1 = length_push back.lits u in
          omega arith) reason_u)) (cases_lt p (length back.lits));
      decisions = λ p d start. decisions_still p d start;
    }
  where
    u : ℤ
    u = asserting lits

    low : end ≤ start
    low = dropped_low starts fewer start place end layered.rising last dropped

    free : IsFree back u
    free = backjumped_free live t back start end place lits hints layered.whole trail_back learnt low is_back

    small : variable u ≤ back.vars
    small = subst (λ (n : ℕ). variable u ≤ n) (sym is_back.vars) over.1

    short : length back.lits ≡ end
    short = is_back.short

    same : SameFalsified (length back.lits) (falsified_at back) (falsified_at (pushed back u id))
    same = same_pushed back u id trail_back small free.1

    reason_u : HasReason more (pushed back u id) (length back.lits)
    reason_u = reason_last more back u id trail_back small free
        (subst (λ (n : ℕ). Implies more (falsified_at back) n u id) (sym short)
        (backjumped_reason live more t back start end place id lits hints learnt dropped.high is_back there))

    closed_now : (s : ℕ) → s < place → IsClosed live (falsified_at t) s → IsClosed more (falsified_at (pushed back u id)) s
    closed_now s less closed =
        let w : (m : ℤ) × Contains lits m × (falsified_at t m ≡ place) = learnt.second (omega arith) in
        let at_w : falsified_at t w.0 ≡ place = w.2 in
        let after : start < falsified_at t u = learnt.after in
        let under : place ≤ end = dropped.high in
        let in_back : IsClosed live (falsified_at back) s = closed_kept live end s (falsified_at t) (falsified_at back) is_back.same (omega (arith, less, under)) closed in
        let u_up : IsFalsifiedUpTo (falsified_at back) s u → ⊥ = λ down. (let some : 0 < falsified_at back u = down.0 in let none : falsified_at back u ≡ 0 = free.0 in omega (arith, some, none)) in
        let w_up : IsFalsifiedUpTo (falsified_at back) s w.0 → ⊥ =
        λ down. (let was : IsFalsifiedUpTo (falsified_at t) s w.0 =
        is_back.same.back s w.0 (omega (arith, less, under)) down in let early : falsified_at t w.0 ≤ s =
        was.1 in omega (arith, early, at_w, less)) in
        let apart : u ≡ w.0 → ⊥ = λ e. (let h : falsified_at t u ≡ falsified_at t w.0 = ap (falsified_at t) e in omega (arith, h, at_w, after, under, low)) in
        let added : IsClosed (with_clause live id (sorted lits)) (falsified_at back) s =
        closed_added live (falsified_at back) s id (sorted lits) u w.0
        (Contains-sorted lits u (Contains-get_or lits 0 (pos 0) learnt.some))
        (Contains-sorted lits w.0 w.1) apart u_up w_up in_back in
        let in_more : IsClosed more (falsified_at back) s = subst (λ (f : ℕ → Option (List ℤ)). IsClosed f (falsified_at back) s) (sym is_more) added in
        closed_kept more (length back.lits) s (falsified_at back) (falsified_at (pushed back u id)) same (omega (arith, less, under, short)) in_more

    in_old : (p : ℕ) → p < length back.lits → p < length t.lits
    in_old p early =
        let at_end : slice_index_or starts (length fewer) 0 ≡ end = dropped.at 0 in
        let f : length fewer < length starts = dropped.fewer in
        let h : slice_index_or starts (length fewer) 0 < length t.lits = layered.inside (length fewer) 0 f in
        omega (arith, early, short)

    not_later : (p k : ℕ) → p < length back.lits → k < length starts → slice_index_or starts k p ≡ p → length fewer ≤ k → ⊥
    not_later p k early within at more_k =
        let at_end : slice_index_or starts (length fewer) p ≡ end = dropped.at p in
        ⊎_elim
        (λ (e : length fewer ≡ k). (let same_at : slice_index_or starts (length fewer) p ≡ slice_index_or starts k p =
        ap (λ (i : ℕ). slice_index_or starts i p) e in omega (arith, early, short, same_at, at_end, at)))
        (λ (apart : length fewer ≡ k → ⊥). (let less : slice_index_or starts (length fewer) p < slice_index_or starts k
        p = layered.rising (length fewer) k p (omega (arith, more_k, apart)) within in
        omega (arith, early, short, less, at_end, at)))
        (cases_eq (length fewer) k)

    still : (p : ℕ) → p < length back.lits → Contains starts p → Contains fewer p
    still p early (k, within, at) =
        ⊎_elim
        (λ (less : k < length fewer). (k, less, dropped.front k p less ∙ at))
        (λ (more_k : length fewer ≤ k). absurd (not_later p k early within at more_k))
        (cases_lt k (length fewer))

    reason_still : (p : ℕ) → p < length back.lits → HasReason live t p → HasReason more back p
    reason_still p early reason = record {
      implied = λ d.
          let same_lit : slice_index_or back.lits p d ≡ slice_index_or t.lits p d = is_back.lits p d (omega (arith, early, short)) in
          let same_reason : reason_of back (slice_index_or t.lits p d) ≡ reason_of t (slice_index_or t.lits p d) =
          ap (λ (rs : List ℕ). slice_index_or rs (variable (slice_index_or t.lits p d)) 0) is_back.reasons in
          rw (same_lit, same_reason)
          (implies_more live more (falsified_at back) p (slice_index_or t.lits p d)
          (reason_of t (slice_index_or t.lits p d)) kept
          (implies_kept live end p (falsified_at t) (falsified_at back) (slice_index_or t.lits p d)
          (reason_of t (slice_index_or t.lits p d)) is_back.same (omega (arith, early, short)) (reason.implied d)));
    }

    reasons_early : (p : ℕ) → p < length back.lits → Contains fewer p ⊎ HasReason more (pushed back u id) p
    reasons_early p early =
        ⊎_elim
        (λ (start_p : Contains starts p). inl (still p early start_p))
        (λ (reason : HasReason live t p). inr (reason_pushed more back u id p trail_back small free early (reason_still p early reason)))
        (layered.reasons p (in_old p early))

    -- the levels that are left begin where they did
    decisions_still : (p : ℕ) (d : ℤ) → Contains fewer p → reason_of (pushed back u id) (slice_index_or (back.lits ++ u ∷ []) p d) ≡ 0
    decisions_still p d (k, within, at) =
        let before : slice_index_or fewer k p < place = dropped.low k p within in
        let under : place ≤ end = dropped.high in
        let early : p < length back.lits = omega (arith, before, under, at, short) in
        let in_starts : k < length starts = (let f : length fewer < length starts = dropped.fewer in omega (arith, f, within)) in
        let was : Contains starts p = (k, in_starts, sym (dropped.front k p within) ∙ at) in
        let same_lit : slice_index_or back.lits p d ≡ slice_index_or t.lits p d = is_back.lits p d (omega (arith, early, short)) in
        let same_reason : reason_of back (slice_index_or t.lits p d) ≡ reason_of t (slice_index_or t.lits p d) =
        ap (λ (rs : List ℕ). slice_index_or rs (variable (slice_index_or t.lits p d)) 0) is_back.reasons in
        ap (reason_of (pushed back u id)) (get_or_append_left back.lits (u ∷ []) d p early)
        ∙ reason_other back p id d u trail_back early free ∙ ap (reason_of back) same_lit ∙ same_reason
        ∙ layered.decisions p d was

-- all literals of a learnt clause are false
pub learnt_falsified : (live : ℕ → Option (List ℤ)) (t : TrailState) (start place : ℕ) (lits : List ℤ) (hints : List ℕ) → IsLearnt live t start lits place hints → All (λ l. 0 < falsified_at t l) lits
learnt_falsified live t start place lits hints learnt k d low =
    ⊎_elim
    (λ (same : slice_index_or lits k d ≡ asserting lits). (let after : start < falsified_at t (asserting lits) =
    learnt.after in let e : falsified_at t (slice_index_or lits k d) ≡ falsified_at t (asserting lits) =
    ap (falsified_at t) same in omega arith))
    (λ (falsified : IsFalsifiedUpTo (falsified_at t) place (slice_index_or lits k d)). falsified.0)
    (learnt.others k d low)

-- the asserting literal is one of the variables
pub learnt_over : (live : ℕ → Option (List ℤ)) (t : TrailState) (start place : ℕ) (lits : List ℤ) (hints : List ℕ) → IsLearnt live t start lits place hints → IsOver t.vars (asserting lits)
learnt_over live t start place lits hints learnt = (learnt.clause.literals 0 (pos 0) learnt.some, learnt.variables 0 (pos 0) learnt.some)

-- So a backjump keeps the invariant of levels, over stored clauses.
pub backjumped_layers : (s : Stored) (t back : TrailState) (starts fewer : List ℕ) (start end place id : ℕ)
    (lits : List ℤ) (hints : List ℕ) (u : ℤ) → IsLayered (live_in s) t starts →
    IsLearnt (live_in s) t start lits place hints → IsLastStart starts start → IsDropped place starts fewer end →
    IsTrail back → IsBacktracked end t back → id ≡ length s.clauses + 1 → u ≡ asserting lits →
    IsLayered (live_in (added s lits)) (pushed back u id) fewer
backjumped_layers s t back starts fewer start end place id lits hints u layered learnt level dropped trail_back is_back id_is u_is =
    rw u_is (layered_backjumped (live_in s) (live_in (added s lits)) t back starts fewer start end place id lits hints
    (live_in-add s lits ∙ ap (λ (n : ℕ). with_clause (live_in s) n (sorted lits)) (sym id_is))
    (λ k clause is. ap (λ (g : ℕ → Option (List ℤ)). g k) (live_in-add s lits) ∙ added_old s (sorted lits) k clause is)
    (ap (λ (g : ℕ → Option (List ℤ)). g id) (live_in-add s lits) ∙ there)
    layered learnt level.last dropped trail_back is_back (learnt_over (live_in s) t start place lits hints learnt))
  where
    there : with_clause (live_in s) (length s.clauses + 1) (sorted lits) id ≡ Some (sorted lits)
    there = rw id_is (added_new (live_in s) (length s.clauses + 1) (sorted lits))
