-- Propagations and backjumps, one after another.
use Rattle.std.proofs.Common.{◌≡◌, ℕ, ◌+◌, ◌-◌, ◌*◌, ◌<◌, ◌≤◌, ℤ, List, length, slice_index_or, All, Option, subst, sym, ap, ◌∙◌, arith}
use Rattle.std.proofs.Math.Logic.{⊎_elim}
use Rattle.std.proofs.Math.Nat.{mul-le-mul_right}
use Rattle.std.proofs.lemmas.Bool.{cases_eq}
use Rattle.cdcl_theory.specs.Trails.{TrailState, falsified_at, IsTrail, IsGrown, IsLayered}
use Rattle.clause_db.specs.Stored.{Stored, live_at, live_in, IsStored}
use Rattle.sat_theory.specs.Formula.{Formula}
use Rattle.sat_theory.specs.Pigeonholes.{different_below}
use Rattle.cdcl_core.specs.Visiting.{IsRest}
use Rattle.cdcl_core.proofs.Logging.{log_same, covered_same}
use Rattle.conflict_core.specs.Learning.{IsReady}
use Rattle.cdcl_core.specs.declared.search.Search.{Search}
use Rattle.cdcl_core.specs.Searching.{IsSearching, HasWatchInvariant, IsLogged, HasPropagated, HasResolvedConflicts, HasBackjumped, HasDecided}
use Rattle.cdcl_core.specs.WatchInvariant.{KeepsWatchInvariant}
use Rattle.cdcl_core.specs.Reduction.{HasReduced}
use Rattle.cdcl_core.proofs.Guards.{guarded_settled}
use Rattle.cdcl_theory.specs.Propagation.{AllSettled}
use Rattle.cdcl_core.proofs.Counting.{trail_short}
use Rattle.cdcl_core.proofs.Layers.{layered_grown}
use Rattle.cdcl_core.proofs.Decisions.{choosing_grown}

pub searching_grown : (s : Search) (t : TrailState) → IsSearching s → IsGrown (live_in s.clauses) s.trail t → IsTrail t → IsSearching (record s { trail = t })
searching_grown s t searching grown trail = record {
  stored = searching.stored;
  vars = searching.vars ∙ sym grown.vars;
  layered = layered_grown (live_in s.clauses) s.trail t s.starts.items searching.layered grown trail;
  ready = subst (λ (n : ℕ). IsReady n s.analysis) (sym grown.vars) searching.ready;
  deciding = choosing_grown (live_in s.clauses) s.trail t s.decision_heap searching.layered.whole grown searching.deciding;
}

-- the same for clauses that watch other literals
pub searching_rest : (s : Search) (b : Stored) (t : TrailState) (head : ℕ) → IsSearching s →
    IsRest s.clauses b s.trail t → IsStored b → IsTrail t →
    IsSearching (record s { clauses = b; trail = t; head = head })
searching_rest s b t head searching rest stored trail = record {
  stored = stored;
  vars = rest.vars ∙ searching.vars ∙ sym rest.grown.vars;
  layered = layered_grown (live_in b) s.trail t s.starts.items
      (subst (λ (xs : List (Option (List ℤ))). IsLayered (live_at xs) s.trail s.starts.items)
      (sym rest.clauses) searching.layered) rest.grown trail;
  ready = subst (λ (n : ℕ). IsReady n s.analysis) (sym rest.grown.vars) searching.ready;
  deciding = choosing_grown (live_in b) s.trail t s.decision_heap searching.layered.whole rest.grown searching.deciding;
}

-- where all is propagated, all is settled
pub settled_visited : (s : Search) → IsSearching s → HasWatchInvariant s → s.head ≡ length s.trail.lits → AllSettled (live_in s.clauses) (falsified_at s.trail)
settled_visited s searching visited all = guarded_settled s.clauses s.trail s.starts.items searching.stored
    searching.layered.whole (subst (λ (n : ℕ). KeepsWatchInvariant s.clauses (falsified_at s.trail) s.starts.items n)
    all visited.guarded)

-- what is propagated when watched literals have made more true
pub visited_some : (s : Search) (b : Stored) (t : TrailState) → HasWatchInvariant s → IsRest s.clauses b s.trail t →
    ((starts : List ℕ) → All (λ x. x ≤ s.head) starts →
    KeepsWatchInvariant s.clauses (falsified_at s.trail) starts s.head →
    KeepsWatchInvariant b (falsified_at t) starts s.head) → HasWatchInvariant (record s { clauses = b; trail = t })
visited_some s b t visited rest kept = record {
  guarded = kept s.starts.items visited.begun visited.guarded;
  low = (let h : s.head ≤ length s.trail.lits = visited.low in let g : length s.trail.lits ≤ length t.lits = rest.grown.longer in omega (arith, h, g));
  begun = visited.begun;
}

pub visited_all : (s : Search) (b : Stored) (t : TrailState) (head : ℕ) → HasWatchInvariant s →
    IsRest s.clauses b s.trail t → ((starts : List ℕ) → All (λ x. x ≤ s.head) starts →
    KeepsWatchInvariant s.clauses (falsified_at s.trail) starts s.head →
    KeepsWatchInvariant b (falsified_at t) starts (length t.lits)) → head ≡ length t.lits →
    HasWatchInvariant (record s { clauses = b; trail = t; head = head })
visited_all s b t head visited rest kept is = rw is (record {
  guarded = kept s.starts.items visited.begun visited.guarded;
  low = omega arith;
  begun = λ k d inside. (let h : slice_index_or s.starts.items k d ≤ s.head = visited.begun k d inside in
      let g : s.head ≤ length s.trail.lits = visited.low in let m : length s.trail.lits ≤ length t.lits =
      rest.grown.longer in omega (arith, h, g, m));
})

pub settled_propagated : (a b c : Search) → HasResolvedConflicts a b → HasPropagated b c → HasResolvedConflicts a c
settled_propagated a b c settled propagated =
    let starts : length c.starts.items ≡ length b.starts.items = ap (λ ls. length ls.items) propagated.starts in
    let clauses : length c.clauses.clauses ≡ length b.clauses.clauses = ap (λ (xs : List (Option (List ℤ))). length xs) propagated.rest.clauses in
    record {
      vars = propagated.rest.grown.vars ∙ settled.vars;
      given = propagated.given ∙ settled.given;
      least = propagated.least ∙ settled.least;
      shorter = propagated.shorter ∙ settled.shorter;
      more = (let h : length a.clauses.clauses ≤ length b.clauses.clauses = settled.more in omega (arith, h, clauses));
      starts = (let h : length b.clauses.clauses + length b.starts.items ≤ length a.clauses.clauses + length a.starts.items = settled.starts in omega (arith, h, clauses, starts));
      longer = λ same. (let h : length b.clauses.clauses ≡ length a.clauses.clauses →
          length a.trail.lits ≤ length b.trail.lits =
          settled.longer in let low : length a.trail.lits ≤ length b.trail.lits =
          h (omega (arith, same, clauses)) in let g : length b.trail.lits ≤ length c.trail.lits =
          propagated.rest.grown.longer in omega (arith, low, g));
    }

pub logged_propagated : (f : Formula) (b c : Search) → IsLogged f b → HasPropagated b c → IsLogged f c
logged_propagated f b c logged propagated = record {
  log = rw (propagated.lines, propagated.deleted, propagated.least) (log_same f b.clauses c.clauses b.lines b.deleted b.least propagated.rest.clauses propagated.rest.vars logged.log);
  new = rw propagated.lines logged.new;
  given = propagated.given ∙ logged.given;
  covered = covered_same f b c logged.covered propagated.rest.clauses propagated.given propagated.shorter;
}

pub settled_backjumped : (a b c : Search) → HasResolvedConflicts a b → HasBackjumped b c → HasResolvedConflicts a c
settled_backjumped a b c settled backjumped =
    let more : length a.clauses.clauses ≤ length b.clauses.clauses = settled.more in
    let starts : length b.clauses.clauses + length b.starts.items ≤ length a.clauses.clauses + length a.starts.items = settled.starts in
    let clauses_now : length c.clauses.clauses ≡ length b.clauses.clauses + 1 = backjumped.clauses in
    let starts_now : length c.starts.items < length b.starts.items = backjumped.starts in
    record {
      vars = backjumped.vars ∙ settled.vars;
      given = backjumped.given ∙ settled.given;
      least = backjumped.least ∙ settled.least;
      shorter = backjumped.shorter ∙ settled.shorter;
      more = omega arith;
      starts = omega arith;
      longer = λ same. absurd (omega arith);
    }

-- Deletion of learnt clauses keeps all of that.
pub settled_reduced : (a b c : Search) → HasResolvedConflicts a b → HasReduced b c → HasResolvedConflicts a c
settled_reduced a b c settled reduced =
    let clauses : length c.clauses.clauses ≡ length b.clauses.clauses = reduced.clauses in
    let starts : length c.starts.items ≡ length b.starts.items = ap (λ ls. length ls.items) reduced.starts in
    let lits : length c.trail.lits ≡ length b.trail.lits = ap (λ (t : TrailState). length t.lits) reduced.trail in
    record {
      vars = ap (λ (t : TrailState). t.vars) reduced.trail ∙ settled.vars;
      given = reduced.given ∙ settled.given;
      least = reduced.least ∙ settled.least;
      shorter = reduced.shorter ∙ settled.shorter;
      more = (let h : length a.clauses.clauses ≤ length b.clauses.clauses = settled.more in omega (arith, h, clauses));
      starts = (let h : length b.clauses.clauses + length b.starts.items ≤ length a.clauses.clauses + length a.starts.items = settled.starts in omega (arith, h, clauses, starts));
      longer = λ same. (let h : length b.clauses.clauses ≡ length a.clauses.clauses →
          length a.trail.lits ≤ length b.trail.lits =
          settled.longer in let low : length a.trail.lits ≤ length b.trail.lits =
          h (omega (arith, same, clauses)) in omega (arith, low, lits));
    }

pub backjumped_reduced : (a b c : Search) → HasBackjumped a b → HasReduced b c → HasBackjumped a c
backjumped_reduced a b c backjumped reduced = record {
  vars = ap (λ (t : TrailState). t.vars) reduced.trail ∙ backjumped.vars;
  given = reduced.given ∙ backjumped.given;
  least = reduced.least ∙ backjumped.least;
  shorter = reduced.shorter ∙ backjumped.shorter;
  clauses = reduced.clauses ∙ backjumped.clauses;
  starts = (let h : length b.starts.items < length a.starts.items = backjumped.starts in
      let same : length c.starts.items ≡ length b.starts.items = ap (λ ls. length ls.items) reduced.starts in
      omega (arith, h, same));
}

-- The clauses that are left are settled.
pub all_settled_reduced : (b c : Search) → HasReduced b c → AllSettled (live_in b.clauses) (falsified_at b.trail) → AllSettled (live_in c.clauses) (falsified_at c.trail)
all_settled_reduced b c reduced settled = rw reduced.trail (fewer_settled settled)
  where
    fewer_settled : AllSettled (live_in b.clauses) (falsified_at b.trail) → AllSettled (live_in c.clauses) (falsified_at b.trail)
    fewer_settled all = record { each = λ id clause is. all.each id clause (reduced.fewer id clause is) }

-- room for one more clause
pub settled_few : (a b : Search) → HasResolvedConflicts a b → length a.clauses.clauses + length a.starts.items < 4000000000 → length b.clauses.clauses < 4000000000
settled_few a b settled few =
    let starts : length b.clauses.clauses + length b.starts.items ≤ length a.clauses.clauses + length a.starts.items = settled.starts in
    omega arith

less_times : (m n k : ℕ) → m + 1 ≤ n → m * k + k ≤ n * k
less_times m n k less = omega (arith, mul-le-mul_right k less)

falls : (b0 v la lb lc ta tb tc : ℕ) → la ≤ lb → (lb ≡ la → ta ≤ tb) → lc ≡ lb → tc ≡ tb + 1 → lb < b0 → tb ≤ v + 1 → (b0 - lc) * (v + 2) + (v + 2 - tc) < (b0 - la) * (v + 2) + (v + 2 - ta)
falls b0 v la lb lc ta tb tc more longer lines lits under short =
    ⊎_elim
    (λ (same : lb ≡ la).
    let low : ta ≤ tb = longer same in
    let e : b0 - lc ≡ b0 - la = omega arith in
    let less : v + 2 - tc < v + 2 - ta = omega arith in
    rw e (omega (arith, less)))
    (λ (apart : lb ≡ la → ⊥).
    let step : (b0 - lc) * (v + 2) + (v + 2) ≤ (b0 - la) * (v + 2) = less_times (b0 - lc) (b0 - la) (v + 2) (omega arith) in
    let less : v + 2 - tc < v + 2 = omega arith in
    omega (arith, step, less))
    (cases_eq lb la)

-- the log of a decision is that before it
pub logged_decided : (f : Formula) (b c : Search) → IsLogged f b → HasDecided b c → IsLogged f c
logged_decided f b c logged decided = record {
  log = rw (decided.clauses, decided.lines, decided.deleted, decided.least) logged.log;
  new = rw decided.lines logged.new;
  given = decided.given ∙ logged.given;
  covered = covered_same f b c logged.covered (ap (λ (x : Stored). x.clauses) decided.clauses) decided.given decided.shorter;
}

-- Each decision makes progress.
pub measure_falls : (limit vars : ℕ) (a b c : Search) → HasResolvedConflicts a b → length b.clauses.clauses < limit →
    HasDecided b c → length b.trail.lits ≤ vars + 1 →
    (limit - length c.clauses.clauses) * (vars + 2) + (vars + 2 - length c.trail.lits) <
    (limit - length a.clauses.clauses) * (vars + 2) + (vars + 2 - length a.trail.lits)
measure_falls limit vars a b c settled under decided short =
    falls limit vars (length a.clauses.clauses) (length b.clauses.clauses) (length c.clauses.clauses)
    (length a.trail.lits) (length b.trail.lits) (length c.trail.lits) settled.more settled.longer
    (ap (λ (s : Stored). length s.clauses) decided.clauses) decided.lits under short

-- there are no more levels than literals on the trail
pub starts_short : (live : ℕ → Option (List ℤ)) (t : TrailState) (starts : List ℕ) → IsLayered live t starts → length starts ≤ t.vars + 1
starts_short live t starts layered =
    let few : length starts ≤ length t.lits = different_below (length t.lits) starts layered.inside
    (λ i j d order within same. (let less : slice_index_or starts i d < slice_index_or starts j d =
    layered.rising i j d order within in omega arith)) in
    let short : length t.lits ≤ t.vars + 1 = trail_short t layered.whole in
    omega arith
