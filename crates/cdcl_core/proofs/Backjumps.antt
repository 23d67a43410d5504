-- The watch invariant after a backjump and after a decision.
use Rattle.std.proofs.Common.{◌≡◌, ℕ, ◌+◌, ◌<◌, ◌≤◌, ℤ, pos, List, [], ◌∷◌, ◌++◌, length, slice_index_or, Contains, All, Option, subst, sym, ap, ◌∙◌, arith, inl, refl}
use Rattle.std.proofs.Math.Logic.{⊎_elim}
use Rattle.std.proofs.lemmas.Bool.{cases_lt}
use Rattle.std.proofs.lemmas.Grind.{common_steps}
use Rattle.std.proofs.lemmas.List.{get_or_push, length_push}
use Rattle.std.proofs.lemmas.List.Elements.{All-contains, All-push}
use Rattle.sat_theory.specs.Formula.{opposite}
use Rattle.cdcl_theory.specs.Propagation.{IsFalsifiedUpTo, SameFalsified}
use Rattle.cdcl_theory.specs.Trails.{TrailState, falsified_at, IsTrail, pushed, IsBacktracked}
use Rattle.cdcl_theory.specs.TrailLaws.{trail_push, place_at, true_not_falsified}
use Rattle.trail_core.specs.Values.{IsOver, IsFree}
use Rattle.clause_db.specs.Stored.{Stored, live_in, IsStored, added}
use Rattle.conflict_core.specs.Learning.{IsLearnt, asserting}
use Rattle.cdcl_core.specs.Levels.{IsDropped}
use Rattle.cdcl_core.specs.WatchInvariant.{KeepsWatchInvariant}
use Rattle.cdcl_core.proofs.Growing.{same_pushed}
use Rattle.cdcl_core.proofs.Guards.{guarded_moved, guarded_back, guarded_added, guarded_decided}

-- the trail position of the pushed literal
pub pushed_on : (t : TrailState) (l : ℤ) (r : ℕ) → IsTrail t → IsOver t.vars l → IsFree t l → (falsified_at (pushed t l r) (opposite l) ≡ length t.lits + 1) × (falsified_at (pushed t l r) l ≡ 0)
pushed_on t l r trail over free =
    let whole : IsTrail (pushed t l r) = trail_push t l r trail over.0 over.1 free.0 free.1 in
    let long : length (t.lits ++ l ∷ []) ≡ length t.lits + 1 = length_push t.lits l in
    let at : slice_index_or (t.lits ++ l ∷ []) (length t.lits) l ≡ l = get_or_push t.lits l l (length t.lits) refl in (
      place_at (t.lits ++ l ∷ []) (falsified_at (pushed t l r)) (length t.lits) l l whole.positions (omega (arith, long)) at,
      true_not_falsified (t.lits ++ l ∷ []) (falsified_at (pushed t l r)) (length t.lits) l l whole.positions (omega (arith, long)) at,
    )

-- The invariant is kept when a literal is assigned.
pub guarded_pushed : (s : Stored) (t : TrailState) (starts : List ℕ) (head : ℕ) (l : ℤ) (r : ℕ) → IsTrail t →
    IsOver t.vars l → IsFree t l → head ≤ length t.lits → All (λ x. x ≤ head) starts →
    KeepsWatchInvariant s (falsified_at t) starts head → KeepsWatchInvariant s (falsified_at (pushed t l r)) starts head
guarded_pushed s t starts head l r trail over free low begun guarded =
    guarded_moved s s (falsified_at t) (falsified_at (pushed t l r)) starts (length t.lits) head
    (same_pushed t l r trail over.1 free.1) trail.positions.within low begun refl (λ id w watches.
    inl watches) guarded

-- After a decision all before it is propagated.
pub guarded_started : (s : Stored) (t : TrailState) (starts more : List ℕ) (head : ℕ) (l : ℤ) (r : ℕ) → IsTrail t →
    IsOver t.vars l → IsFree t l → head ≡ length t.lits → All (λ x. x ≤ head) starts → more ≡ starts ++
    length t.lits ∷ [] → KeepsWatchInvariant s (falsified_at t) starts head →
    KeepsWatchInvariant s (falsified_at (pushed t l r)) more head
guarded_started s t starts more head l r trail over free all begun is guarded =
    rw (is, all) (guarded_pushed s t (starts ++ length t.lits ∷ []) (length t.lits) l r trail over free (omega arith)
    (All-push (λ x. x ≤ length t.lits) starts (length t.lits) (subst (λ (n : ℕ). All (λ x. x ≤ n) starts) all begun) (omega arith))
    (guarded_decided s t starts trail (subst (λ (n : ℕ). KeepsWatchInvariant s (falsified_at t) starts n) all guarded)))

first_default : (lits : List ℤ) → 0 < length lits → slice_index_or lits 0 (pos 1) ≡ asserting lits
first_default lits some = grind (arith, common_steps)

-- a learnt unit clause backjumps to level 0
alone_back : (live : ℕ → Option (List ℤ)) (t : TrailState) (start place : ℕ) (lits : List ℤ) (hints : List ℕ) → IsLearnt live t start lits place hints → length lits < 2 → place ≡ 0
alone_back live t start place lits hints learnt short =
    ⊎_elim
    (λ (some : 0 < place).
    let w : (m : ℤ) × Contains lits m × (falsified_at t m ≡ place) = learnt.second some in
    let first : w.0 ≡ asserting lits = only_one w.0 w.1 in
    let same : falsified_at t w.0 ≡ falsified_at t (asserting lits) = ap (falsified_at t) first in
    let at : falsified_at t w.0 ≡ place = w.2 in
    let after : start < falsified_at t (asserting lits) = learnt.after in
    let low : place ≤ start = learnt.low in
    absurd (omega (arith, same, at, after, low)))
    (λ (none : place ≤ 0). omega (arith, none))
    (cases_lt 0 place)
  where
    only_one : (m : ℤ) → Contains lits m → m ≡ asserting lits
    only_one m (k, within, at) = (let zero_ : k ≡ 0 = omega (arith, within, short) in
        let here : slice_index_or lits k m ≡ slice_index_or lits 0 (pos 0) =
        ap (λ (j : ℕ). slice_index_or lits j m) zero_
        ∙ (let some : 0 < length lits = learnt.some in grind (arith, common_steps)) in sym at ∙ here)

-- After a backjump all before the learnt literal is propagated.
pub guarded_backjumped : (s : Stored) (t back : TrailState) (starts fewer : List ℕ) (start end place id head : ℕ)
    (lits : List ℤ) (hints : List ℕ) (u : ℤ) → IsStored s → KeepsWatchInvariant s (falsified_at t) starts head →
    All (λ x. x ≤ head) starts → IsLearnt (live_in s) t start lits place hints → IsDropped place starts fewer end →
    IsTrail back → IsBacktracked end t back → IsOver back.vars u → IsFree back u → u ≡ asserting lits →
    KeepsWatchInvariant (added s lits) (falsified_at (pushed back u id)) fewer end
guarded_backjumped s t back starts fewer start end place id head lits hints u stored guarded begun learnt dropped trail_back is_back over free u_is =
    guarded_added s (falsified_at (pushed back u id)) fewer end lits stored learnt.some
    (rw first_is (omega (arith, on.0)))
    (rw first_is on.1)
    (λ short k d inside. absurd (let low : slice_index_or fewer k d < place = dropped.low k d inside in
    let none : place ≡ 0 = alone_back (live_in s) t start place lits hints learnt short in omega (arith, low, none)))
    late
    (guarded_pushed s back fewer end u id trail_back over free (omega (arith, short_back)) (λ k d inside.
    (let low : slice_index_or fewer k d < place = dropped.low k d inside in let high : place ≤ end = dropped.high in
    omega (arith, low, high)))
    (guarded_back s t back starts fewer head end end_low there (λ k d inside.
    (let low : slice_index_or fewer k d < place = dropped.low k d inside in let high : place ≤ end = dropped.high in
    omega (arith, low, high))) front is_back guarded))
  where
    first_is : slice_index_or lits 0 (pos 1) ≡ u
    first_is = first_default lits learnt.some ∙ sym u_is

    on : (falsified_at (pushed back u id) (opposite u) ≡ length back.lits + 1) × (falsified_at (pushed back u id) u ≡ 0)
    on = pushed_on back u id trail_back over free

    short_back : length back.lits ≡ end
    short_back = is_back.short

    fewer_low : length fewer < length starts
    fewer_low = dropped.fewer

    there : Contains starts end
    there = (length fewer, fewer_low, dropped.at end)

    end_low : end ≤ head
    end_low = All-contains (λ x. x ≤ head) starts end begun there

    front : (k d : ℕ) → k < length fewer → Contains starts (slice_index_or fewer k d)
    front k d inside = (
      k,
      omega (arith, inside, fewer_low),
      sym (dropped.front k (slice_index_or fewer k d) inside)
          ∙ (let same : slice_index_or fewer k (slice_index_or fewer k d) ≡ slice_index_or fewer k d =
          grind (arith, common_steps) in same),
    )

    late : 2 ≤ length lits → All (λ x. x < falsified_at (pushed back u id) (slice_index_or lits 1 (pos 1))) fewer
    late long k d inside =
        let w : ℤ = slice_index_or lits 1 (pos 1) in
        let at : falsified_at t (slice_index_or lits 1 (pos 1)) ≡ place = learnt.next (pos 1) (omega (arith, long)) in
        let low : slice_index_or fewer k d < place = dropped.low k d inside in
        let high : place ≤ end = dropped.high in
        ⊎_elim
        (λ (good : slice_index_or fewer k d < falsified_at (pushed back u id) (slice_index_or lits 1 (pos 1))). good)
        (λ (bad : falsified_at (pushed back u id) (slice_index_or lits 1 (pos 1)) ≤ slice_index_or fewer k d).
        let falsified : IsFalsifiedUpTo (falsified_at t) end (slice_index_or lits 1 (pos 1)) = (omega (arith, at, low), omega (arith, at, high)) in
        let falsified_back : IsFalsifiedUpTo (falsified_at back) end (slice_index_or lits 1 (pos 1)) = is_back.same.there end (slice_index_or lits 1 (pos 1)) (omega arith) falsified in
        let same : SameFalsified (length back.lits) (falsified_at back) (falsified_at (pushed back u id)) = same_pushed back u id trail_back over.1 free.1 in
        let falsified_now : IsFalsifiedUpTo (falsified_at (pushed back u id)) end (slice_index_or lits 1 (pos 1)) =
        same.there end (slice_index_or lits 1 (pos 1)) (omega (arith, short_back)) falsified_back in
        let early : IsFalsifiedUpTo (falsified_at back) (slice_index_or fewer k d) (slice_index_or lits 1 (pos 1)) =
        same.back (slice_index_or fewer k d) (slice_index_or lits 1 (pos 1)) (omega (arith, low, high, short_back))
        (falsified_now.0, bad) in
        let early_old : IsFalsifiedUpTo (falsified_at t) (slice_index_or fewer k d) (slice_index_or lits 1 (pos 1)) =
        is_back.same.back (slice_index_or fewer k d) (slice_index_or lits 1 (pos 1))
        (omega (arith, low, high)) early in
        let h : falsified_at t (slice_index_or lits 1 (pos 1)) ≤ slice_index_or fewer k d = early_old.1 in
        absurd (omega (arith, h, at, low)))
        (cases_lt (slice_index_or fewer k d) (falsified_at (pushed back u id) (slice_index_or lits 1 (pos 1))))
