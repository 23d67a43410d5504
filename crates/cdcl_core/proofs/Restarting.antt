-- Backtracking to level 0.
use Rattle.std.proofs.Common.{◌≡◌, ℕ, zero, suc, ◌<◌, ◌≤◌, ℤ, List, [], length, slice_index_or, Contains, All, Option, ap, ◌∙◌, arith, inr}
use Rattle.std.proofs.Math.Logic.{⊎_elim}
use Rattle.std.proofs.lemmas.List.Elements.{All-contains}
use Rattle.sat_theory.specs.Formula.{variable, Formula}
use Rattle.cdcl_theory.specs.PropagationLaws.{implies_kept}
use Rattle.cdcl_theory.specs.Trails.{TrailState, falsified_at, reason_of, IsTrail, HasReason, IsBacktracked, IsLayered}
use Rattle.clause_db.specs.Stored.{Stored}
use Rattle.cdcl_core.specs.declared.search.Search.{Search}
use Rattle.cdcl_core.specs.declared.restarts.Restarts.{Restarts}
use Rattle.cdcl_core.specs.Levels.{IsFirstStart}
use Rattle.cdcl_core.specs.WatchInvariant.{KeepsWatchInvariant}
use Rattle.cdcl_core.specs.Searching.{IsSearching, HasWatchInvariant, IsLogged, HasBackjumped, HasRestarted}
use Rattle.cdcl_core.proofs.Guards.{guarded_back}
use Rattle.cdcl_core.proofs.Logging.{covered_same}

-- no level begins before the first one
first_least : (live : ℕ → Option (List ℤ)) (t : TrailState) (starts : List ℕ) (first p : ℕ) → IsLayered live t starts → IsFirstStart starts first → Contains starts p → first ≤ p
first_least live t starts first p layered begins (zero, inside, at) = omega (arith, begins.begins p, at)
first_least live t starts first p layered begins (suc k, inside, at) =
    (let less : slice_index_or starts 0 p < slice_index_or starts (suc k) p =
    layered.rising 0 (suc k) p (omega arith) inside in omega (arith, less, begins.begins p, at))

pub first_inside : (live : ℕ → Option (List ℤ)) (t : TrailState) (starts : List ℕ) (first : ℕ) → IsLayered live t starts → IsFirstStart starts first → first < length t.lits
first_inside live t starts first layered begins = (let low : slice_index_or starts 0 0 < length t.lits = layered.inside 0 0 begins.some in omega (arith, low, begins.begins 0))

-- All literals of level 0 have reasons.
pub layered_bottom : (live : ℕ → Option (List ℤ)) (t back : TrailState) (starts none : List ℕ) (first : ℕ) →
    IsLayered live t starts → IsFirstStart starts first → none ≡ [] → IsTrail back → IsBacktracked first t back →
    IsLayered live back none
layered_bottom live t back starts none first layered begins is trail is_back = rw is (record {
  whole = trail;
  inside = λ k d (low : k < 0). absurd (omega (arith, low));
  rising = λ i j d less (low : j < 0). absurd (omega (arith, low));
  closed = λ k d (low : k < 0). absurd (omega (arith, low));
  reasons = λ p within. inr (reason_of_low p (omega (arith, within, is_back.short)));
  decisions = λ p d start. absurd (let low : start.0 < 0 = start.1 in omega (arith, low));
})
  where
    still : (p : ℕ) → p < first → HasReason live t p → HasReason live back p
    still p low reason = record {
      implied = λ d.
          let same_lit : slice_index_or back.lits p d ≡ slice_index_or t.lits p d = is_back.lits p d low in
          let same_reason : reason_of back (slice_index_or t.lits p d) ≡ reason_of t (slice_index_or t.lits p d) =
          ap (λ (rs : List ℕ). slice_index_or rs (variable (slice_index_or t.lits p d)) 0) is_back.reasons in
          rw (same_lit, same_reason)
          (implies_kept live first p (falsified_at t) (falsified_at back) (slice_index_or t.lits p d) (reason_of t (slice_index_or t.lits p d)) is_back.same (omega (arith, low)) (reason.implied d));
    }

    reason_of_low : (p : ℕ) → p < first → HasReason live back p
    reason_of_low p low =
        ⊎_elim
        (λ (start : Contains starts p). absurd (let high : first ≤ p = first_least live t starts first p layered begins start in omega (arith, low, high)))
        (λ (reason : HasReason live t p). still p low reason)
        (layered.reasons p (let within : first < length t.lits = first_inside live t starts first layered begins in omega (arith, low, within)))

-- The watch invariant holds there.
pub guarded_bottom : (s : Stored) (t back : TrailState) (starts none : List ℕ) (head first : ℕ) →
    IsFirstStart starts first → All (λ x. x ≤ head) starts → none ≡ [] → IsBacktracked first t back →
    KeepsWatchInvariant s (falsified_at t) starts head → KeepsWatchInvariant s (falsified_at back) none first
guarded_bottom s t back starts none head first begins begun is is_back guarded =
    let there : Contains starts first = (0, begins.some, begins.begins first) in
    rw is (guarded_back s t back starts [] head first (All-contains (λ x. x ≤ head) starts first begun there) there
    (λ k d (low : k < 0). absurd (omega (arith, low))) (λ k d (low : k < 0). absurd (omega (arith, low))) is_back
    guarded)

-- The counters are irrelevant.
pub searching_counted : (s : Search) (r : Restarts) → IsSearching s → IsSearching (record s { restarts = r })
searching_counted s r searching = record {
  stored = searching.stored;
  vars = searching.vars;
  layered = searching.layered;
  ready = searching.ready;
  deciding = searching.deciding;
}

pub visited_counted : (s : Search) (r : Restarts) → HasWatchInvariant s → HasWatchInvariant (record s { restarts = r })
visited_counted s r visited = record {
  guarded = visited.guarded;
  low = visited.low;
  begun = visited.begun;
}

-- The log of a restart is the one before it.
pub logged_restarted : (f : Formula) (b c : Search) → IsLogged f b → HasRestarted b c → IsLogged f c
logged_restarted f b c logged restarted = record {
  log = rw (restarted.clauses, restarted.lines, restarted.deleted, restarted.least) logged.log;
  new = rw restarted.lines logged.new;
  given = restarted.given ∙ logged.given;
  covered = covered_same f b c logged.covered (ap (λ (x : Stored). x.clauses) restarted.clauses) restarted.given restarted.shorter;
}

-- A backjump followed by a restart is a backjump.
pub backjumped_restarted : (a b c : Search) → HasBackjumped a b → HasRestarted b c → HasBackjumped a c
backjumped_restarted a b c backjumped restarted =
    let clauses : length c.clauses.clauses ≡ length b.clauses.clauses = ap (λ (x : Stored). length x.clauses) restarted.clauses in
    record {
      vars = restarted.vars ∙ backjumped.vars;
      given = restarted.given ∙ backjumped.given;
      least = restarted.least ∙ backjumped.least;
      shorter = restarted.shorter ∙ backjumped.shorter;
      clauses = clauses ∙ backjumped.clauses;
      starts = (let h : length b.starts.items < length a.starts.items = backjumped.starts in let g : length c.starts.items ≤ length b.starts.items = restarted.starts in omega (arith, h, g));
    }
