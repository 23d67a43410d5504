-- Additions to the log.
use Rattle.std.proofs.Common.{◌≡◌, ◌⊎◌, ℕ, ◌+◌, ◌-◌, ◌*◌, ◌^◌, ◌<◌, ◌≤◌, ℤ, Bool, true, List, [], ◌∷◌, ◌++◌, length}
use Rattle.std.proofs.Common.{slice_index_or, Contains, All, Option, Some, is_some, count_by, subst, sym, ap, ◌∙◌}
use Rattle.std.proofs.Common.{arith, inl, inr, refl}
use Rattle.std.proofs.Math.Logic.{⊎_elim}
use Rattle.std.proofs.lemmas.Bool.{cases_eq, ne_eqb}
use Rattle.std.proofs.lemmas.List.{length_push, get_or_push, get_or_append_left}
use Rattle.std.proofs.lemmas.List.Elements.{All-push, All-weaker, All-contains, All-nil}
use Rattle.std.proofs.lemmas.List.Quantifiers.{Any-push}
use Rattle.sat_theory.specs.Formula.{Formula, variable, opposite, IsClause, IsWithin}
use Rattle.sat_theory.specs.Line.{Line, Add, IsId}
use Rattle.sat_theory.specs.State.{State, by_id, start, next, with_clause}
use Rattle.sat_theory.specs.Holding.{among, with_literal, IsUnitOutside, HintsHold}
use Rattle.sat_theory.specs.Log.{after, EachLine, IsStep, AddsUnsubsumed, IsUnsubsumed, AddsEmpty, added_ids, additions, HasEmpty, SparesFormula}
use Rattle.sat_theory.specs.FewAdditions.{AddsSome}
use Rattle.sat_theory.specs.LogLaws.{after-push, EachLine-push, added_ids-add}
use Rattle.cdcl_theory.specs.ResolvingLaws.{hints_live}
use Rattle.clause_db.specs.Sorted.{sorted}
use Rattle.clause_db.specs.SortedLaws.{Contains-from_sorted, All-sorted, All-from_sorted, by_id-sorted, by_id-from_sorted}
use Rattle.clause_db.specs.Stored.{Stored, live_at, live_in, IsStored, none_stored, added, all_added}
use Rattle.clause_db.specs.StoredLaws.{live_in-add, live_in-start, live_inside, live_added, added_old, added_new, added_cases, all_added-vars}
use Rattle.cdcl_core.specs.declared.search.Search.{Search}
use Rattle.cdcl_core.specs.declared.deciding.DecisionHeap.{DecisionHeap}
use Rattle.cdcl_core.specs.Searching.{IsShownAs, IsStateOf, IsLog, AreUnsubsumed, IsCovered, AreCovered, IsLogged}
use Rattle.cdcl_core.proofs.Formulas.{by_id_inside, All-self}
use Rattle.cdcl_core.proofs.Beginning.{count_begun}
use Rattle.cdcl_core.proofs.Counts.{count_pushed}

unit_given : (set : ℤ → Bool) (given : List ℤ) (l : ℤ) → IsUnitOutside set (sorted given) l → IsUnitOutside set given l
unit_given set given l unit = record {
  there = Contains-from_sorted given l unit.there;
  outside = unit.outside;
  others = All-from_sorted (λ m. (m ≡ l) ⊎ (set m ≡ true)) given unit.others;
}

-- Hints that hold with some clauses hold with more, and with other orders of their literals.
pub hints_more : (live more : ℕ → Option (List ℤ)) (set : ℤ → Bool) (hints : List ℕ) →
    ((id : ℕ) (clause : List ℤ) → live id ≡ Some clause → IsShownAs (more id) clause) → HintsHold live set hints →
    HintsHold more set hints
unfolding HintsHold
hints_more live more set [] inside hold = hold
hints_more live more set (hint ∷ []) inside (clause, is, all) =
    let shown : IsShownAs (more hint) clause = inside hint clause is in
    (shown.given, shown.is, All-from_sorted (λ m. set m ≡ true) shown.given (subst (λ (c : List ℤ). All (λ m. set m ≡ true) c) shown.order all))
hints_more live more set (hint ∷ next_one ∷ hints) inside (clause, l, is, unit, hold) =
    let shown : IsShownAs (more hint) clause = inside hint clause is in (
      shown.given,
      l,
      shown.is,
      unit_given set shown.given l
          (subst (λ (c : List ℤ). IsUnitOutside set c l) shown.order unit),
      hints_more live more (with_literal set (opposite l)) (next_one ∷ hints) inside hold,
    )

-- an addition under the next id, whose hints hold, is a step
addition_step : (f : Formula) (s : Stored) (st : State) (id : ℕ) (lits : List ℤ) (hints : List ℕ) → IsStateOf f s st →
    s.vars ≡ f.vars → IsStored s → IsClause lits → IsWithin s.vars lits → s.vars < 1000000000 →
    id ≡ length s.clauses + 1 → HintsHold (live_in s) (among lits) hints → IsStep st (Add id lits hints)
addition_step f s st id lits hints state vars stored is_clause within small is hold =
    let few : length s.clauses ≤ 4000000000 = stored.few in
    let greatest : st.greatest ≡ length s.clauses = state.greatest in
    record {
      is_line = record {
        own_id = (omega arith, omega arith);
        clause = is_clause;
        variables = All-weaker (λ (l : ℤ). variable l ≤ s.vars) (λ (l : ℤ). variable l ≤ 2 ^ 31 - 1) (λ l h. omega (arith, h, small)) lits within;
        hint_ids = All-weaker (λ (k : ℕ). (clause : List ℤ) ×
            (live_in s k ≡ Some clause)) IsId (λ k h. (let low : (0 < k) ×
            (k ≤ length s.clauses) = live_inside s k h.0 h.1 in let high : k ≤ length s.clauses =
            low.1 in (low.0, omega arith))) hints (hints_live (live_in s) (among lits) hints hold);
      };
      holds = record {
        greater = omega (arith, greatest, is);
        variables = subst (λ (n : ℕ). IsWithin n lits) (vars ∙ sym state.vars) within;
        hints_hold = hints_more (live_in s) st.live (among lits) hints state.inside hold;
      };
    }

-- a clause under the next id in a state
state_added : (f : Formula) (s : Stored) (st : State) (id : ℕ) (lits : List ℤ) (hints : List ℕ) → IsStateOf f s st →
    id ≡ length s.clauses + 1 → length f.clauses ≤ length s.clauses →
    IsStateOf f (added s lits) (next st (Add id lits hints))
state_added f s st id lits hints state is long = record {
  vars = state.vars;
  greatest = is ∙ sym (length_push s.clauses (Some (sorted lits)));
  inside = λ k clause live. ⊎_elim
      (λ (new : (k ≡ length s.clauses + 1) × (sorted lits ≡ clause)). record {
        given = lits;
        is = subst (λ (n : ℕ). with_clause st.live id lits n ≡ Some lits) (is ∙ sym new.0) (added_new st.live id lits);
        order = sym new.1;
      })
      (λ (old : live_in s k ≡ Some clause).
      let shown : IsShownAs (st.live k) clause = state.inside k clause old in
      record {
        given = shown.given;
        is = older k shown.given shown.is (λ e. (let low : (0 < k) ×
            (k ≤ length s.clauses) = live_inside s k clause old in let high : k ≤ length s.clauses =
            low.1 in omega (arith, high, e, is)));
        order = shown.order;
      })
      (live_added s lits k clause live);
  formula = λ k clause here. older k clause (state.formula k clause here) (λ e. (let low : k ≤ length f.clauses = by_id_inside f.clauses k clause here in omega (arith, low, e, is, long)));
  only = λ k clause live. ⊎_elim
      (λ (new : (k ≡ id) × (lits ≡ clause)). inr (ap (λ (g : ℕ → Option (List ℤ)). g k) (live_in-add s lits)
      ∙ subst (λ (n : ℕ). with_clause (live_in s) (length s.clauses + 1) (sorted lits) n ≡ Some (sorted clause))
      (sym is ∙ sym new.0) (added_new (live_in s) (length s.clauses + 1) (sorted lits)
      ∙ ap (λ (c : List ℤ). Some (sorted c)) new.1)))
      (λ (old : st.live k ≡ Some clause). ⊎_elim
      (λ (here : by_id f.clauses k ≡ Some clause). inl here)
      (λ (kept : live_in s k ≡ Some (sorted clause)). inr (ap (λ (g : ℕ → Option (List ℤ)). g k) (live_in-add s lits) ∙ added_old s (sorted lits) k (sorted clause) kept))
      (state.only k clause old))
      (added_cases st.live id lits k clause live);
}
  where
    older : (k : ℕ) (clause : List ℤ) → st.live k ≡ Some clause → (k ≡ id → ⊥) → with_clause st.live id lits k ≡ Some clause
    older k clause here apart = rw (ne_eqb k id apart) here

-- One clause more.
pub log_added : (f : Formula) (s : Stored) (lines : List Line) (id : ℕ) (lits : List ℤ) (hints : List ℕ)
    (deleted least : ℕ) → IsLog f s lines deleted least → IsStored s → IsClause lits → IsWithin s.vars lits →
    s.vars < 1000000000 → id ≡ length s.clauses + 1 → HintsHold (live_in s) (among lits) hints →
    IsLog f (added s lits) (lines ++ Add id lits hints ∷ []) deleted least
log_added f s lines id lits hints deleted least log stored is_clause within small is hold = record {
  vars = log.vars;
  holds = EachLine-push IsStep (start f) lines (Add id lits hints) log.holds (addition_step f s (after (start f) lines) id lits hints log.state log.vars stored is_clause within small is hold);
  state = rw (after-push (start f) lines (Add id lits hints))
      (state_added f s (after (start f) lines) id lits hints log.state is (let count : length s.clauses ≡
      length f.clauses + additions lines = log.count in omega (arith, count)));
  count = (let one : additions now ≡ additions lines + 1 = one_more in
      let before : length s.clauses ≡ length f.clauses + additions lines =
      log.count in let long : length more.clauses ≡ length s.clauses + 1 = length_push s.clauses (Some (sorted lits)) in
      omega arith);
  spares = All-push (SparesFormula f) lines (Add id lits hints) log.spares tt;
  ids = ids_now;
  gone = (let one : additions now ≡ additions lines + 1 = one_more in
      let before : count_by (λ k. is_some (old.live k)) (added_ids lines) + deleted ≡ additions lines =
      log.gone in let after_it : count_by (λ k. is_some ((after (start f) now).live k)) (added_ids now) ≡
      count_by (λ k. is_some (old.live k)) (added_ids lines) + 1 = live_more in omega (arith, one, before, after_it));
  half = ⊎_elim
      (λ (low : 2 * deleted ≤ least). inl low)
      (λ (before : 2 * deleted ≤ additions lines). inr (let one : additions now ≡ additions lines + 1 = one_more in omega (arith, before, one)))
      log.half;
}
  where
    more : Stored
    more = added s lits

    now : List Line
    now = lines ++ Add id lits hints ∷ []

    old : State
    old = after (start f) lines

    one_more : additions now ≡ additions lines + 1
    one_more = ap length (added_ids-add lines id lits hints) ∙ length_push (added_ids lines) id

    there : with_clause old.live id lits id ≡ Some lits
    there = added_new old.live id lits

    other : (k : ℕ) → (k ≡ id → ⊥) → with_clause old.live id lits k ≡ old.live k
    other k apart = rw (ne_eqb k id apart) refl

    same : All (λ k. is_some (with_clause old.live id lits k) ≡ is_some (old.live k)) (added_ids lines)
    same = λ k d low. ap (λ (o : Option (List ℤ)). is_some o)
        (other (slice_index_or (added_ids lines) k d)
        (λ e. (let at : slice_index_or (added_ids lines) k d ≡ length f.clauses + 1 + k = log.ids k d low in
        let count : length s.clauses ≡ length f.clauses + additions lines =
        log.count in omega (arith, at, e, low, count, is))))

    live_more : count_by (λ k. is_some ((after (start f) now).live k)) (added_ids now) ≡ count_by (λ k. is_some (old.live k)) (added_ids lines) + 1
    live_more = rw (after-push (start f) lines (Add id lits hints), added_ids-add lines id lits hints)
        (count_pushed (λ k. is_some (old.live k)) (λ k. is_some (with_clause old.live id lits k))
        (added_ids lines) id same (ap (λ (o : Option (List ℤ)). is_some o) there))

    ids_now : (k d : ℕ) → k < additions now → slice_index_or (added_ids now) k d ≡ length f.clauses + 1 + k
    ids_now k d low = ap (λ (xs : List ℕ). slice_index_or xs k d) (added_ids-add lines id lits hints) ∙ ⊎_elim
        (λ (e : k ≡ length (added_ids lines)). get_or_push (added_ids lines) id d k (sym e)
        ∙ (let count : length s.clauses ≡ length f.clauses + additions lines = log.count in
        omega (arith, is, e, count)))
        (λ (apart : k ≡ length (added_ids lines) → ⊥).
        (let inside : k < length (added_ids lines) = omega (arith, low, one_more, apart) in
        get_or_append_left (added_ids lines) (id ∷ []) d k inside ∙ log.ids k d inside))
        (cases_eq k (length (added_ids lines)))

-- A clause that no live clause of a search subsumes is subsumed by none of the log either: the log's other
-- clauses are covered.
new_in_state : (f : Formula) (s : Search) (st : State) (lits : List ℤ) → IsStateOf f s.clauses st → AreCovered f s → IsUnsubsumed (live_in s.clauses) lits → IsUnsubsumed st.live lits
new_in_state f s st lits state covered new id clause is inside =
    ⊎_elim
    (λ (here : by_id f.clauses id ≡ Some clause).
    let cover : IsCovered s clause = covered id clause here in
    new cover.by cover.cover cover.is_live (All-weaker (Contains clause) (Contains lits) (λ m there. All-contains (Contains lits) clause m inside there) cover.cover cover.inside))
    (λ (kept : live_in s.clauses id ≡ Some (sorted clause)). new id (sorted clause) kept (All-sorted (Contains lits) clause inside))
    (state.only id clause is)

-- it isn't empty either
pub new_added : (f : Formula) (s : Search) (id : ℕ) (lits : List ℤ) (hints : List ℕ) → IsLogged f s →
    IsUnsubsumed (live_in s.clauses) lits → 0 < length lits → AreUnsubsumed f (s.lines ++ Add id lits hints ∷ [])
new_added f s id lits hints logged new some = record {
  fresh = EachLine-push AddsUnsubsumed (start f) s.lines (Add id lits hints) logged.new.fresh (new_in_state f s (after (start f) s.lines) lits logged.log.state logged.covered new);
  some = All-push AddsSome s.lines (Add id lits hints) logged.new.some some;
}

-- the clauses of the formula are still covered where one more is added
pub covered_added : (f : Formula) (s t : Search) (lits : List ℤ) → AreCovered f s → t.clauses ≡ added s.clauses lits → t.given ≡ s.given → t.shorter ≡ s.shorter → AreCovered f t
covered_added f s t lits covered clauses given shorter id clause here =
    let cover : IsCovered s clause = covered id clause here in
    record {
      by = cover.by;
      cover = cover.cover;
      is_live = rw clauses (ap (λ (g : ℕ → Option (List ℤ)). g cover.by) (live_in-add s.clauses lits) ∙ added_old s.clauses (sorted lits) cover.by cover.cover cover.is_live);
      inside = cover.inside;
      stays = rw (given, shorter) cover.stays;
    }

-- and where the same are live
pub covered_same : (f : Formula) (s t : Search) → AreCovered f s → t.clauses.clauses ≡ s.clauses.clauses → t.given ≡ s.given → t.shorter ≡ s.shorter → AreCovered f t
covered_same f s t covered clauses given shorter id clause here =
    let cover : IsCovered s clause = covered id clause here in
    record {
      by = cover.by;
      cover = cover.cover;
      is_live = ap (λ (xs : List (Option (List ℤ))). live_at xs cover.by) clauses ∙ cover.is_live;
      inside = cover.inside;
      stays = rw (given, shorter) cover.stays;
    }

-- the empty clause
no_literals : IsClause []
no_literals = record { literals = λ k d (low : k < 0). absurd (omega arith); differ = λ i j d less (low : j < 0). absurd (omega arith) }

-- It can end the log.
pub log_refuted : (f : Formula) (s : Stored) (lines : List Line) (id : ℕ) (hints : List ℕ) (deleted least : ℕ) →
    IsLog f s lines deleted least → IsStored s → s.vars < 1000000000 → id ≡ length s.clauses + 1 →
    HintsHold (live_in s) (among []) hints → IsLog f (added s []) (lines ++ Add id [] hints ∷ []) deleted least
log_refuted f s lines id hints deleted least log stored small is hold = log_added f s lines id [] hints deleted least log stored no_literals (λ k d (low : k < 0). absurd (omega arith)) small is hold

pub log_reaches : (f : Formula) (lines : List Line) (id : ℕ) (hints : List ℕ) → HasEmpty f (lines ++ Add id [] hints ∷ [])
log_reaches f lines id hints = inr (Any-push AddsEmpty lines (Add id [] hints) refl)

-- The log begins empty.
pub log_begun : (f : Formula) (least : ℕ) → IsLog f (all_added (none_stored f.vars) f.clauses) [] 0 least
unfolding after EachLine added_ids
log_begun f least = record {
  vars = all_added-vars (none_stored f.vars) f.clauses;
  holds = tt;
  state = record {
    vars = refl;
    greatest = sym (count_begun f);
    inside = λ id clause is.
        let found : (given : List ℤ) × (by_id f.clauses id ≡ Some given) × (clause ≡ sorted given) =
        by_id-from_sorted f.clauses id clause (sym
        (ap (λ (g : ℕ → Option (List ℤ)). g id) (live_in-start f.vars f.clauses)) ∙ is) in
        record { given = found.0; is = found.1; order = found.2 };
    formula = λ id clause is. is;
    only = λ id clause is. inl is;
  };
  count = (let long : length (all_added (none_stored f.vars) f.clauses).clauses ≡ length f.clauses = count_begun f in let none : additions [] ≡ 0 = refl in omega arith);
  spares = All-nil (SparesFormula f);
  ids = λ k d (low : k < 0). absurd (omega arith);
  gone = refl;
  half = inl (omega arith);
}

pub new_begun : (f : Formula) → AreUnsubsumed f []
unfolding EachLine
new_begun f = record { fresh = tt; some = All-nil AddsSome }

-- each clause of the formula covers itself
pub covered_begun : (f : Formula) (s : Search) → s.clauses ≡ all_added (none_stored f.vars) f.clauses → s.given ≡ length f.clauses → AreCovered f s
covered_begun f s clauses given id clause here = record {
  by = id;
  cover = sorted clause;
  is_live = rw clauses (ap (λ (g : ℕ → Option (List ℤ)). g id) (live_in-start f.vars f.clauses) ∙ by_id-sorted f.clauses id clause here);
  inside = All-sorted (Contains clause) clause (All-self clause);
  stays = inl (let low : id ≤ length f.clauses = by_id_inside f.clauses id clause here in omega (arith, low, given));
}

-- the same clauses, whatever they watch
pub log_same : (f : Formula) (a b : Stored) (lines : List Line) (deleted least : ℕ) → b.clauses ≡ a.clauses → b.vars ≡ a.vars → IsLog f a lines deleted least → IsLog f b lines deleted least
log_same f a b lines deleted least clauses vars log = record {
  vars = vars ∙ log.vars;
  holds = log.holds;
  state = record {
    vars = log.state.vars;
    greatest = log.state.greatest ∙ sym (ap length clauses);
    inside = λ id clause is. log.state.inside id clause (ap (λ (xs : List (Option (List ℤ))). live_at xs id) (sym clauses) ∙ is);
    formula = log.state.formula;
    only = λ id clause is. ⊎_elim
        (λ (here : by_id f.clauses id ≡ Some clause). inl here)
        (λ (kept : live_in a id ≡ Some (sorted clause)). inr (ap (λ (xs : List (Option (List ℤ))). live_at xs id) clauses ∙ kept))
        (log.state.only id clause is);
  };
  count = ap length clauses ∙ log.count;
  spares = log.spares;
  ids = log.ids;
  gone = log.gone;
  half = log.half;
}

-- another order of decisions
pub logged_chosen : (f : Formula) (s : Search) (x : DecisionHeap) → IsLogged f s → IsLogged f (record s { decision_heap = x })
logged_chosen f s x logged = record {
  log = logged.log;
  new = logged.new;
  given = logged.given;
  covered = covered_same f s (record s { decision_heap = x }) logged.covered refl refl refl;
}
