-- Deletion of clauses of the formula that others subsume, and addition of those.
use Rattle.std.proofs.Common.{◌≡◌, ℕ, zero, suc, ◌+◌, ◌-◌, ◌<◌, ◌≤◌, ◌==◌, ℤ, Bool, false, List, [], length, Contains, All, Option, Some, None, subst, sym, ap, ◌∙◌, arith, inl, inr, refl}
use Rattle.std.specs.Prelude.{Result, Ok, Err, IfOk}
use Rattle.std.proofs.Math.Logic.{⊎_elim}
use Rattle.std.proofs.lemmas.Bool.{cases_eq}
use Rattle.std.proofs.lemmas.List.{length-set}
use Rattle.std.proofs.lemmas.List.Elements.{All-weaker, All-contains}
use Rattle.sat_theory.specs.Formula.{Formula}
use Rattle.sat_theory.specs.Line.{Line}
use Rattle.sat_theory.specs.State.{State, by_id, start}
use Rattle.sat_theory.specs.Log.{after}
use Rattle.clause_db.specs.Sorted.{sorted}
use Rattle.clause_db.specs.SortedLaws.{length-sorted}
use Rattle.clause_db.specs.Stored.{Stored, live_in, added}
use Rattle.clause_db.specs.StoredLaws.{live_in-add, live_inside, added_old, live_added}
use Rattle.clause_db.specs.Deleting.{IsDeleted}
use Rattle.clause_db.specs.DeletingLaws.{some_live, still_live, kept_live}
use Rattle.subsume_core.specs.Units.{IsUnitsOf}
use Rattle.subsume_core.specs.UnitLaws.{units_fewer}
use Rattle.cdcl_core.specs.declared.search.Search.{Search}
use Rattle.cdcl_core.specs.Searching.{IsStateOf, IsLog, IsIrredundant, IsCovered, AreCovered, IsLogged, HasWatchInvariant, HasBegun}
use Rattle.cdcl_core.specs.Strengthening.{IsUnassigned, IsStrengthening, KeepsLimits, CanReplace, HasRemoved, HasAdded, HasStrengthened}
use Rattle.cdcl_core.proofs.Formulas.{by_id_there}
use Rattle.cdcl_core.proofs.Logging.{covered_same}

pub positive : (n : ℕ) → (n == 0) ≡ false → 0 < n
positive zero is = absurd (cc)
positive (suc n) is = omega arith

pub same_clause : (o : Option (List ℤ)) (a b : List ℤ) → o ≡ Some a → o ≡ Some b → a ≡ b
same_clause o a b first second = cc

-- A state of the log still has a clause of the formula that the search deletes,
state_aside : (f : Formula) (a b : Stored) (st : State) (id : ℕ) → IsStateOf f a st → 0 < id → id ≤ length f.clauses → IsDeleted id a b → IsStateOf f b st
state_aside f a b st id state some low gone = record {
  vars = state.vars;
  greatest = state.greatest ∙ sym (ap length gone.clauses ∙ length-set a.clauses (id - 1) None);
  inside = λ k clause live. state.inside k clause (still_live id a b k clause gone some live).0;
  formula = state.formula;
  only = λ k clause live. ⊎_elim
      (λ (here : by_id f.clauses k ≡ Some clause). inl here)
      (λ (kept : live_in a k ≡ Some (sorted clause)). ⊎_elim
      (λ (e : k ≡ id). inl (of_formula k clause (omega (arith, e, some)) (omega (arith, e, low)) live))
      (λ (apart : k ≡ id → ⊥). inr (kept_live id a b k (sorted clause) gone some apart kept))
      (cases_eq k id))
      (state.only k clause live);
}
  where
    of_formula : (k : ℕ) (clause : List ℤ) → 0 < k → k ≤ length f.clauses → st.live k ≡ Some clause → by_id f.clauses k ≡ Some clause
    of_formula k clause there inside live =
        let x : (c : List ℤ) × (by_id f.clauses k ≡ Some c) = by_id_there f.clauses k there inside in
        let same : x.0 ≡ clause = same_clause (st.live k) x.0 clause (state.formula k x.0 x.1) live in
        subst (λ (c : List ℤ). by_id f.clauses k ≡ Some c) same x.1

-- and so has the log
log_aside : (f : Formula) (a b : Stored) (lines : List Line) (deleted least id : ℕ) → IsLog f a lines deleted least → 0 < id → id ≤ length f.clauses → IsDeleted id a b → IsLog f b lines deleted least
log_aside f a b lines deleted least id log some low gone = record {
  vars = gone.vars ∙ log.vars;
  holds = log.holds;
  state = state_aside f a b (after (start f) lines) id log.state some low gone;
  count = ap length gone.clauses ∙ length-set a.clauses (id - 1) None ∙ log.count;
  spares = log.spares;
  ids = log.ids;
  gone = log.gone;
  half = log.half;
}

-- What the clause covered is covered by the one that replaces it.
covered_aside : (f : Formula) (s t : Search) (by id : ℕ) → 0 < id → CanReplace s by id → IsDeleted id s.clauses t.clauses → t.given ≡ s.given → t.shorter ≡ s.shorter → AreCovered f s → AreCovered f t
covered_aside f s t by id some stand gone given shorter covered k clause here =
    let cover : IsCovered s clause = covered k clause here in
    ⊎_elim
    (λ (e : cover.by ≡ id).
    let other : (c : List ℤ) × (live_in s.clauses by ≡ Some c) = some_live (live_in s.clauses by) stand.by_live in
    let inner : All (Contains cover.cover) other.0 = stand.inside cover.cover other.0 (subst (λ (n : ℕ). live_in s.clauses n ≡ Some cover.cover) e cover.is_live) other.1 in
    covered_by by other.0 other.1 stand.apart (All-weaker (Contains cover.cover) (Contains clause) (λ m there.
    All-contains (Contains clause) cover.cover m cover.inside there) other.0 inner) stand.stays)
    (λ (apart : cover.by ≡ id → ⊥). covered_by cover.by cover.cover cover.is_live apart cover.inside cover.stays)
    (cases_eq cover.by id)
  where
    covered_by : (n : ℕ) (c : List ℤ) → live_in s.clauses n ≡ Some c → (n ≡ id → ⊥) → All (Contains clause) c → IsIrredundant s n → IsCovered t clause
    covered_by n c live apart inside stays = record {
      by = n;
      cover = c;
      is_live = kept_live id s.clauses t.clauses n c gone some apart live;
      inside = inside;
      stays = rw (given, shorter) stays;
    }

-- A search that deletes such a clause is still one of the formula.
pub logged_aside : (f : Formula) (s : Search) (b : Stored) (by id : ℕ) → IsLogged f s → CanReplace s by id → IsDeleted id s.clauses b → IsLogged f (record s { clauses = b })
logged_aside f s b by id logged stand gone =
    let live : (c : List ℤ) × (live_in s.clauses id ≡ Some c) = some_live (live_in s.clauses id) stand.id_live in
    let inside : (0 < id) × (id ≤ length s.clauses.clauses) = live_inside s.clauses id live.0 live.1 in
    record {
      log = log_aside f s.clauses b s.lines s.deleted s.least id logged.log inside.0 (omega (arith, stand.given, logged.given)) gone;
      new = logged.new;
      given = logged.given;
      covered = covered_aside f s (record s { clauses = b }) by id inside.0 stand gone refl refl logged.covered;
    }

-- With one more irredundant clause the formula is still covered.
pub covered_more : (f : Formula) (s t : Search) (lits : List ℤ) → AreCovered f s → t.clauses ≡ added s.clauses lits →
    t.given ≡ s.given → t.shorter.low ≡ s.shorter.low → s.shorter.high ≤ t.shorter.high → AreCovered f t
covered_more f s t lits covered clauses given low high k clause here =
    let cover : IsCovered s clause = covered k clause here in
    record {
      by = cover.by;
      cover = cover.cover;
      is_live = rw clauses (ap (λ (g : ℕ → Option (List ℤ)). g cover.by) (live_in-add s.clauses lits) ∙ added_old s.clauses (sorted lits) cover.by cover.cover cover.is_live);
      inside = cover.inside;
      stays = ⊎_elim
          (λ (below : cover.by ≤ s.given). inl (omega (arith, below, given)))
          (λ (between : (s.shorter.low < cover.by) × (cover.by ≤ s.shorter.high)). inr (omega (arith, between.0, low), omega (arith, between.1, high)))
          cover.stays;
    }

-- The same for the first such clause.
pub covered_first : (f : Formula) (s t : Search) → AreCovered f s → s.shorter.high ≡ 0 → t.clauses ≡ s.clauses → t.given ≡ s.given → AreCovered f t
covered_first f s t covered none clauses given k clause here =
    let cover : IsCovered s clause = covered k clause here in
    record {
      by = cover.by;
      cover = cover.cover;
      is_live = rw clauses cover.is_live;
      inside = cover.inside;
      stays = ⊎_elim
          (λ (below : cover.by ≤ s.given). inl (omega (arith, below, given)))
          (λ (between : (s.shorter.low < cover.by) × (cover.by ≤ s.shorter.high)). absurd (omega (arith, between.0, between.1, none)))
          cover.stays;
    }

-- a search whose trail has begun
pub logged_begun : (f : Formula) (s t : Search) → IsLogged f s → HasBegun s t → IsLogged f t
logged_begun f s t logged begun = record {
  log = rw (begun.clauses, begun.lines, begun.deleted, begun.least) logged.log;
  new = rw begun.lines logged.new;
  given = begun.given ∙ logged.given;
  covered = covered_same f s t logged.covered (ap (λ (x : Stored). x.clauses) begun.clauses) begun.given begun.shorter;
}

-- no clause is empty where unit clauses are true and the others watched
pub visited_full : (s : Search) → HasWatchInvariant s → (id : ℕ) → live_in s.clauses id ≡ Some [] → ⊥
visited_full s visited id is =
    let none : length {A = ℤ} [] ≡ 0 = refl in
    let good = visited.guarded.short id [] is (omega (arith, none)) in
    (let low : good.there.0 < length {A = ℤ} [] = good.there.1 in omega (arith, low, none))

-- The invariant after a clause was replaced.
pub strengthening_replaced : (s t r : Search) (lits : List ℤ) (old new : List Bool) → IsStrengthening s old →
    0 < length lits → t.clauses ≡ added s.clauses lits → HasAdded s t → IsUnassigned r → HasRemoved t r →
    IsUnitsOf (added s.clauses lits) new → IsStrengthening r new
strengthening_replaced s t r lits old new strengthening some clauses has_added unassigned aside units = record {
  unassigned = unassigned;
  full = λ id is. ⊎_elim
      (λ (one : (id ≡ length s.clauses.clauses + 1) × (sorted lits ≡ [])). (let none : length lits ≡ 0 = sym (length-sorted lits) ∙ ap length one.1 in omega (arith, none, some)))
      (λ (older : live_in s.clauses id ≡ Some []). strengthening.full id older)
      (live_added s.clauses lits id [] (subst (λ (x : Stored). live_in x id ≡ Some []) clauses (aside.fewer id [] is)));
  units = units_fewer t.clauses r.clauses new aside.db_vars aside.fewer (subst (λ (x : Stored). IsUnitsOf x new) (sym clauses) units);
  high = ap (λ x. x.high) aside.shorter ∙ has_added.high ∙ sym aside.clauses;
}

pub alike_trans : (a b c : Search) → KeepsLimits a b → KeepsLimits b c → KeepsLimits a c
alike_trans a b c first second = record {
  vars = second.vars ∙ first.vars;
  given = second.given ∙ first.given;
  least = second.least ∙ first.least;
}

pub strengthened_trans : (end : ℕ) (a b c : Search) → HasStrengthened end a b → HasStrengthened end b c → HasStrengthened end a c
strengthened_trans end a b c first second = record {
  limits = alike_trans a b c first.limits second.limits;
  more = omega (arith, first.more, second.more);
  few = omega (arith, first.few, second.few);
}

pub strengthened_self : (end : ℕ) (s : Search) → HasStrengthened end s s
strengthened_self end s = record { limits = record { vars = refl; given = refl; least = refl }; more = omega arith; few = omega arith }

pub begun_logged : {A E : Type 0} (r : Result A E) (f : Formula) (s t : Search) → IsLogged f s → IfOk r (λ x. HasBegun s t) → IfOk r (λ x. IsLogged f t)
begun_logged (Ok x) f s t logged begun = logged_begun f s t logged begun
begun_logged (Err e) f s t logged begun = tt
