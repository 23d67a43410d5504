-- Deletion of a clause from a search.
use Rattle.std.proofs.Common.{◌≡◌, ℕ, ◌+◌, ◌-◌, ◌*◌, ◌<◌, ◌≤◌, ◌↔◌, ℤ, List, [], ◌∷◌, ◌++◌, length, slice_index_or, Contains, All, Option, Some, None, subst, sym, ap, ◌∙◌, arith, inl, inr, refl}
use Rattle.std.proofs.Math.Logic.{⊎_elim}
use Rattle.std.proofs.lemmas.List.{length-set}
use Rattle.std.proofs.lemmas.List.Elements.{All-weaker}
use Rattle.sat_theory.specs.Formula.{Formula, opposite}
use Rattle.cdcl_theory.specs.Propagation.{Implies, IsClosed}
use Rattle.cdcl_theory.specs.PropagationLaws.{closed_less}
use Rattle.cdcl_theory.specs.Trails.{falsified_at, reason_of, HasReason, IsLayered}
use Rattle.cdcl_theory.specs.TrailLaws.{place_at}
use Rattle.clause_db.specs.Stored.{Stored, live_in, IsStored}
use Rattle.clause_db.specs.StoredLaws.{live_inside}
use Rattle.clause_db.specs.Deleting.{IsDeleted}
use Rattle.clause_db.specs.DeletingLaws.{still_live, kept_live, still_watches}
use Rattle.cdcl_core.specs.declared.search.Search.{Search}
use Rattle.cdcl_core.specs.Searching.{IsSearching, HasWatchInvariant, IsIrredundant, IsCovered, AreCovered}
use Rattle.cdcl_core.specs.Reduction.{IsPending, IsNoReason, IsImplied, NoneImplied, HasHalf, HasDeletedOne, HasReduced}
use Rattle.cdcl_core.proofs.Gone.{log_lost}

-- A clause that is the reason of none of its literals is no reason; `row` has its literals.
pub no_reason : (s : Search) (id : ℕ) (row : List ℤ) → IsSearching s →
    ((clause : List ℤ) → live_in s.clauses id ≡ Some clause → (l : ℤ) → Contains row l ↔ Contains clause l) →
    NoneImplied s.trail row (length row) id → IsNoReason s id
no_reason s id row searching same none = record {
  none = λ p d low reason at.
      let l : ℤ = slice_index_or s.trail.lits p d in
      let implied : Implies (live_in s.clauses) (falsified_at s.trail) p (slice_index_or s.trail.lits p d) (reason_of s.trail (slice_index_or s.trail.lits p d)) = reason.implied d in
      let live : live_in s.clauses id ≡ Some implied.clause = subst (λ (n : ℕ). live_in s.clauses n ≡ Some implied.clause) at implied.is_live in
      let there : Contains row (slice_index_or s.trail.lits p d) = (same implied.clause live (slice_index_or s.trail.lits p d)).1 implied.there in
      let on : falsified_at s.trail (opposite (slice_index_or s.trail.lits p d)) ≡ p + 1 =
      place_at s.trail.lits (falsified_at s.trail) p d
      (slice_index_or s.trail.lits p d) searching.layered.whole.positions low refl in
      none there.0 (slice_index_or s.trail.lits p d) there.1 there.1 (subst (λ (m : ℤ). IsImplied s.trail id m) (sym there.2) (omega (arith, on), at));
}

fewer_closed : (live less : ℕ → Option (List ℤ)) (positions : ℤ → ℕ) (starts : List ℕ) →
    ((id : ℕ) (clause : List ℤ) → less id ≡ Some clause → live id ≡ Some clause) →
    All (λ s. IsClosed live positions s) starts → All (λ s. IsClosed less positions s) starts
fewer_closed live less positions starts inside all =
    All-weaker (λ s. IsClosed live positions s) (λ s. IsClosed less positions s) (λ s closed.
    closed_less live less positions s inside closed) starts all

-- Deleting a clause that is no reason keeps the invariant of levels.
layered_lost : (s : Search) (b : Stored) (id : ℕ) → IsLayered (live_in s.clauses) s.trail s.starts.items → 0 < id →
    IsDeleted id s.clauses b → IsNoReason s id → IsLayered (live_in b) s.trail s.starts.items
layered_lost s b id layered some gone free = record {
  whole = layered.whole;
  inside = layered.inside;
  rising = layered.rising;
  closed = fewer_closed (live_in s.clauses) (live_in b) (falsified_at s.trail) s.starts.items (λ k c live. (still_live id s.clauses b k c gone some live).0) layered.closed;
  reasons = λ p within. ⊎_elim
      (λ (start : Contains s.starts.items p). inl start)
      (λ (reason : HasReason (live_in s.clauses) s.trail p). inr (still p within reason))
      (layered.reasons p within);
  decisions = layered.decisions;
}
  where
    still : (p : ℕ) → p < length s.trail.lits → HasReason (live_in s.clauses) s.trail p → HasReason (live_in b) s.trail p
    still p within reason = record {
      implied = λ d.
          let implied : Implies (live_in s.clauses) (falsified_at s.trail) p (slice_index_or s.trail.lits p d) (reason_of s.trail (slice_index_or s.trail.lits p d)) = reason.implied d in
          record {
            clause = implied.clause;
            is_live = kept_live id s.clauses b (reason_of s.trail (slice_index_or s.trail.lits p d)) implied.clause gone some (free.none p d within reason) implied.is_live;
            there = implied.there;
            others = implied.others;
          };
    }

pub searching_lost : (s : Search) (b : Stored) (id n : ℕ) (clause : List ℤ) → IsSearching s → IsStored b →
    live_in s.clauses id ≡ Some clause → IsDeleted id s.clauses b → IsNoReason s id →
    IsSearching (record s { clauses = b; deleted = n })
searching_lost s b id n clause searching stored is gone free = record {
  stored = stored;
  vars = gone.vars ∙ searching.vars;
  layered = layered_lost s b id searching.layered (live_inside s.clauses id clause is).0 gone free;
  ready = searching.ready;
  deciding = searching.deciding;
}

-- The watch invariant is kept.
pub visited_lost : (s : Search) (b : Stored) (id n : ℕ) → 0 < id → HasWatchInvariant s → IsDeleted id s.clauses b → HasWatchInvariant (record s { clauses = b; deleted = n })
visited_lost s b id n some visited gone = record {
  guarded = record {
    long = λ k w clause watches is falsified. visited.guarded.long k w clause (still_watches id s.clauses b k w gone some watches).0 (still_live id s.clauses b k clause gone some is).0 falsified;
    short = λ k clause is short. visited.guarded.short k clause (still_live id s.clauses b k clause gone some is).0 short;
  };
  low = visited.low;
  begun = visited.begun;
}

-- The log has one more id to delete.
pub pending_lost : (f : Formula) (s : Search) (b : Stored) (ids : List ℕ) (id : ℕ) (clause : List ℤ) →
    IsPending f s ids → IsStored s.clauses → live_in s.clauses id ≡ Some clause → s.given < id →
    IsDeleted id s.clauses b → HasHalf s → IsPending f (record s { clauses = b; deleted = s.deleted + 1 }) (ids ++
    id ∷ [])
pending_lost f s b ids id clause pending stored is learnt gone room = record {
  log = log_lost f s.clauses b s.lines ids id clause s.deleted s.least pending.log stored is
      (omega (arith, pending.given, learnt)) gone (⊎_elim (λ (low : 2 * (s.deleted + 1) ≤ s.least). inl low)
      (λ (half : 2 * (s.deleted + 1) + s.given ≤ length s.clauses.clauses). inr (omega (arith, pending.given, half)))
      room);
  given = pending.given;
}

-- one clause more is deleted
pub reduced_lost : (a b c : Search) (id : ℕ) → 0 < id → HasReduced a b → HasDeletedOne id b c → HasReduced a c
reduced_lost a b c id some reduced lost = record {
  trail = ap (λ (s : Search). s.trail) lost.rest ∙ reduced.trail;
  starts = ap (λ (s : Search). s.starts) lost.rest ∙ reduced.starts;
  head = ap (λ (s : Search). s.head) lost.rest ∙ reduced.head;
  given = ap (λ (s : Search). s.given) lost.rest ∙ reduced.given;
  least = ap (λ (s : Search). s.least) lost.rest ∙ reduced.least;
  shorter = ap (λ (s : Search). s.shorter) lost.rest ∙ reduced.shorter;
  clauses = ap length lost.deleted.clauses ∙ length-set b.clauses.clauses (id - 1) None ∙ reduced.clauses;
  fewer = λ k clause is. reduced.fewer k clause (still_live id b.clauses c.clauses k clause lost.deleted some is).0;
}

-- The clauses of the formula are still covered: a clause that covers one isn't deleted.
pub covered_lost : (f : Formula) (s t : Search) (id : ℕ) → 0 < id → (IsIrredundant s id → ⊥) → HasDeletedOne id s t → AreCovered f s → AreCovered f t
covered_lost f s t id some redundant lost covered k clause here =
    let cover : IsCovered s clause = covered k clause here in
    let given : t.given ≡ s.given = ap (λ (x : Search). x.given) lost.rest in
    let shorter : t.shorter ≡ s.shorter = ap (λ (x : Search). x.shorter) lost.rest in
    record {
      by = cover.by;
      cover = cover.cover;
      is_live = kept_live id s.clauses t.clauses cover.by cover.cover lost.deleted some (λ e. redundant (subst (λ (n : ℕ). IsIrredundant s n) e cover.stays)) cover.is_live;
      inside = cover.inside;
      stays = rw (given, shorter) cover.stays;
    }
