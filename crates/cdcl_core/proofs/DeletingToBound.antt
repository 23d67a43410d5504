-- Few enough clauses are live after all were deleted that may be: the others are irredundant, or reasons of
-- different literals of the trail.
use Rattle.std.proofs.Common.{◌≡◌, ◌⊎◌, ℕ, ◌+◌, ◌-◌, ◌<◌, ◌≤◌, ℤ, pos, true, List, map, length, count_by, Contains, Some, None, is_some, subst, ap, ◌∙◌, arith, inl, inr}
use Rattle.std.proofs.Math.Logic.{⊎_elim}
use Rattle.std.proofs.lemmas.List.{length-map, get_or-map, length-set}
use Rattle.sat_theory.specs.Formula.{Formula, opposite}
use Rattle.sat_theory.specs.State.{State, by_id, start}
use Rattle.sat_theory.specs.Log.{after, added_ids, additions}
use Rattle.cdcl_theory.specs.CodeLaws.{opposite-opposite}
use Rattle.cdcl_theory.specs.Trails.{falsified_at, reason_of, ArePositions}
use Rattle.clause_db.specs.Sorted.{sorted}
use Rattle.clause_db.specs.Stored.{Stored, live_in}
use Rattle.clause_db.specs.StoredLaws.{live_inside}
use Rattle.clause_db.specs.DeletingLaws.{some_live, still_live}
use Rattle.cdcl_core.specs.declared.search.Search.{Search}
use Rattle.cdcl_core.specs.Searching.{IsSearching, IsIrredundant, IsLogged}
use Rattle.cdcl_core.specs.Reduction.{SomeImplied, IsReason, ExceedsBound, IsBounded, IsUndeletable, HasDeletedOne}
use Rattle.cdcl_core.proofs.Counts.{count_covered}
use Rattle.cdcl_core.proofs.Counting.{trail_short}
use Rattle.cdcl_core.proofs.Formulas.{by_id_inside}

-- a literal that is true is on the trail
pub is_reason : (s : Search) (id : ℕ) → IsSearching s → SomeImplied s.trail id → IsReason s id
is_reason s id searching some =
    let m : ℤ = opposite some.literal in
    let positions : ArePositions s.trail.lits (falsified_at s.trail) = searching.layered.whole.positions in
    let on : 0 < falsified_at s.trail m = some.implied.0 in
    let within : falsified_at s.trail m ≤ length s.trail.lits = positions.within m in
    record {
      place = falsified_at s.trail m - 1;
      low = omega (arith, on, within);
      is = λ d. ap (λ (l : ℤ). reason_of s.trail l) (positions.found m d on ∙ opposite-opposite some.literal) ∙ some.implied.1;
    }

-- the reasons of the trail
abbrev reasons : Search → List ℕ
reasons s = map (reason_of s.trail) s.trail.lits

in_reasons : (s : Search) (id : ℕ) → IsReason s id → Contains (reasons s) id
in_reasons s id reason = (
  reason.place,
  (let low : reason.place < length s.trail.lits = reason.low in
      omega (arith, low, length-map s.trail.lits (reason_of s.trail))),
  get_or-map (reason_of s.trail) s.trail.lits reason.place (pos 0) id reason.low ∙ reason.is (pos 0),
)

-- If no live addition may be deleted, they are few.
few_stay : (f : Formula) (s : Search) → IsSearching s → IsLogged f s → ((id : ℕ) (clause : List ℤ) → s.given < id → live_in s.clauses id ≡ Some clause → IsUndeletable s id) → ExceedsBound s → ⊥
few_stay f s searching logged stay full =
    let st : State = after (start f) s.lines in
    let count : count_by (λ id. is_some (st.live id)) (added_ids s.lines) ≤ s.shorter.high - s.shorter.low + length
    (reasons s) = count_covered (λ id. is_some (st.live id)) (length f.clauses + 1) s.shorter.low s.shorter.high
    (reasons s) (added_ids s.lines) logged.log.ids inside in
    let gone : count_by (λ id. is_some (st.live id)) (added_ids s.lines) + s.deleted ≡ additions s.lines = logged.log.gone in
    let all : length s.clauses.clauses ≡ length f.clauses + additions s.lines = logged.log.count in
    let short : length s.trail.lits ≤ s.trail.vars + 1 = trail_short s.trail searching.layered.whole in
    omega (arith, count, gone, all, short, full, logged.given, searching.vars, length-map s.trail.lits (reason_of s.trail))
  where
    inside : (y : ℕ) → length f.clauses + 1 ≤ y → is_some ((after (start f) s.lines).live y) ≡ true → ((s.shorter.low < y) × (y ≤ s.shorter.high)) ⊎ Contains (reasons s) y
    inside y from live =
        let there = some_live ((after (start f) s.lines).live y) live in
        ⊎_elim
        (λ (here : by_id f.clauses y ≡ Some there.0). absurd (let low : y ≤ length f.clauses = by_id_inside f.clauses y there.0 here in omega (arith, low, from)))
        (λ (kept : live_in s.clauses y ≡ Some (sorted there.0)). ⊎_elim
        (λ (never : IsIrredundant s y). ⊎_elim
        (λ (given : y ≤ s.given). absurd (omega (arith, given, from, logged.given)))
        (λ (between : (s.shorter.low < y) × (y ≤ s.shorter.high)). inl between)
        never)
        (λ (reason : IsReason s y). inr (in_reasons s y reason))
        (stay y (sorted there.0) (omega (arith, from, logged.given)) kept))
        (logged.log.state.only y there.0 there.1)

-- While too many are live, those with ids up to n can't be deleted.
pub record StayUpTo (n : ℕ) (s : Search) : Type 0 where
  pub stay : ExceedsBound s → (id : ℕ) (clause : List ℤ) → s.given < id → id ≤ n → live_in s.clauses id ≡ Some clause → IsUndeletable s id

-- what the trail, the formula and the strengthened clauses say of an id
stays_same : (s t : Search) (id : ℕ) → t.trail ≡ s.trail → t.given ≡ s.given → t.shorter ≡ s.shorter → IsUndeletable s id → IsUndeletable t id
stays_same s t id trail given shorter stays = ⊎_elim
    (λ (never : IsIrredundant s id). inl (rw (given, shorter) never))
    (λ (reason : IsReason s id). inr (record { place = reason.place; low = rw trail reason.low; is = λ d. rw trail (reason.is d) }))
    stays

pub stay_lost : (n : ℕ) (s t : Search) → StayUpTo n s → HasDeletedOne (n + 1) s t → StayUpTo (n + 1) t
stay_lost n s t before lost = record {
  stay = λ full id clause low high live.
      let given : t.given ≡ s.given = ap (λ (x : Search). x.given) lost.rest in
      let deleted : t.deleted ≡ s.deleted + 1 = ap (λ (x : Search). x.deleted) lost.rest in
      let vars : t.clauses.vars ≡ s.clauses.vars = lost.deleted.vars in
      let high_same : t.shorter.high ≡ s.shorter.high = ap (λ (x : Search). x.shorter.high) lost.rest in
      let low_same : t.shorter.low ≡ s.shorter.low = ap (λ (x : Search). x.shorter.low) lost.rest in
      let long : length t.clauses.clauses ≡ length s.clauses.clauses = ap length lost.deleted.clauses ∙ length-set s.clauses.clauses (n + 1 - 1) None in
      let some : 0 < n + 1 = omega arith in
      let older : (live_in s.clauses id ≡ Some clause) × (id ≡ n + 1 → ⊥) = still_live (n + 1) s.clauses t.clauses id clause lost.deleted some live in
      let apart : id ≡ n + 1 → ⊥ = older.1 in
      stays_same s t id (ap (λ (x : Search). x.trail) lost.rest) given (ap (λ (x : Search). x.shorter) lost.rest)
      (before.stay (omega (arith, full, given, deleted, vars, high_same, low_same, long)) id clause (omega (arith, low, given)) (omega (arith, high, apart)) older.0);
}

-- After the line with the deletions, few enough are live.
pub bounded_written : (n : ℕ) (s t : Search) → IsSearching t → StayUpTo n s → length s.clauses.clauses ≤ n → t ≡ record s { lines = t.lines } → IsBounded t
bounded_written n s t searching before all same = record {
  few = λ f logged full. few_stay f t searching logged (λ id clause low live.
      let given : t.given ≡ s.given = ap (λ (x : Search). x.given) same in
      let clauses : t.clauses ≡ s.clauses = ap (λ (x : Search). x.clauses) same in
      let older : live_in s.clauses id ≡ Some clause = subst (λ (x : Stored). live_in x id ≡ Some clause) clauses live in
      let inside : (0 < id) × (id ≤ length s.clauses.clauses) = live_inside s.clauses id clause older in
      let high : id ≤ length s.clauses.clauses = inside.1 in
      stays_same s t id (ap (λ (x : Search). x.trail) same) given (ap (λ (x : Search). x.shorter) same)
      (before.stay (subst (λ (x : Search). ExceedsBound x) same full) id clause (omega (arith, low, given)) (omega (arith, high, all)) older)) full;
}
