use Rattle.std.proofs.Common.{◌≡◌, ◌<◌, ◌≤◌, ◌+◌, ℕ, length, subst, sym, arith}
use Rattle.cdcl_theory.specs.Trails.{TrailState, falsified_at}
use Rattle.clause_db.specs.Stored.{Stored}
use Rattle.clause_db.specs.Watching.{list_of}
use Rattle.cdcl_core.specs.WatchInvariant.{HasTrueAt}
use Rattle.cdcl_core.specs.Visiting.{id_at, KeepsWatch, IsMoved, IsFate}
use Rattle.cdcl_core.specs.declared.visiting.Visited.{Visited}
use Rattle.cdcl_core.proofs.Visits.{rest_kept, rest_moved, visited_open, visited_kept, visited_moved, visited_each, moved_shorter}
use Rattle.cdcl_core.proofs.visiting.visit_watching.Goals as goal

pub loop-next-preserved : goal.loop-next-preserved
loop-next-preserved c =
    let b : Stored = c.loop-next.clauses in
    let s : TrailState = c.loop-next.trail in
    let i : ℕ = c.in-Some.next in
    let kept : KeepsWatch b c.visit.new.clauses s c.visit.new.trail c.args.falsified i =
    subst (λ (v : Visited). IsFate b c.visit.new.clauses s c.visit.new.trail c.args.falsified i v) c.in-Kept.is
    c.in_ok-visit.ensures.visit in
    let long : length c.watching.result.now ≡ length (list_of b.watches c.args.falsified) = c.watching.ensures.long in
    let found = c.in-Some.ensures.some in
    let before : (k : ℕ) → k < i → HasTrueAt b (falsified_at s) (id_at b c.args.falsified k) =
    visited_open b s c.args.falsified c.watching.result.now c.loop-next.index i c.watching.ensures.beside found.2
    (omega (arith, found.1)) c.loop-next.invariant.visited in
    record {
      whole = c.in_ok-visit.ensures.whole;
      stored = c.in_ok-visit.ensures.stored;
      rest = rest_kept c.args.clauses.now b c.visit.new.clauses c.args.trail.now s c.visit.new.trail c.args.falsified i c.loop-next.invariant.rest kept;
      visited = visited_kept b c.visit.new.clauses s c.visit.new.trail c.args.falsified i c.loop-next.invariant.whole kept before;
      inside = subst (λ (x : Stored). i + 1 ≤ length (list_of x.watches c.args.falsified)) (sym kept.same) (omega (arith, found.1, long));
    }

pub loop-next-smaller-in-Moved : goal.loop-next-smaller-in-Moved
loop-next-smaller-in-Moved c =
    let b : Stored = c.loop-next.clauses in
    let s : TrailState = c.loop-next.trail in
    let i : ℕ = c.in-Some.next in
    let moved : IsMoved b c.visit.new.clauses s c.visit.new.trail c.args.falsified i =
    subst (λ (v : Visited). IsFate b c.visit.new.clauses s c.visit.new.trail c.args.falsified i v) c.in-Moved.is
    c.in_ok-visit.ensures.visit in
    let long : length c.watching.result.now ≡ length (list_of b.watches c.args.falsified) = c.watching.ensures.long in
    let found = c.in-Some.ensures.some in
    let shorter = moved_shorter b c.visit.new.clauses s c.visit.new.trail c.args.falsified i c.loop-next.invariant.stored moved in
    omega (arith, shorter, long, found.0, found.1)

pub loop-next-preserved-in-Moved : goal.loop-next-preserved-in-Moved
loop-next-preserved-in-Moved c =
    let b : Stored = c.loop-next.clauses in
    let s : TrailState = c.loop-next.trail in
    let i : ℕ = c.in-Some.next in
    let moved : IsMoved b c.visit.new.clauses s c.visit.new.trail c.args.falsified i =
    subst (λ (v : Visited). IsFate b c.visit.new.clauses s c.visit.new.trail c.args.falsified i v) c.in-Moved.is
    c.in_ok-visit.ensures.visit in
    let long : length c.watching.result.now ≡ length (list_of b.watches c.args.falsified) = c.watching.ensures.long in
    let found = c.in-Some.ensures.some in
    let before : (k : ℕ) → k < i → HasTrueAt b (falsified_at s) (id_at b c.args.falsified k) =
    visited_open b s c.args.falsified c.watching.result.now c.loop-next.index i c.watching.ensures.beside found.2
    (omega (arith, found.1)) c.loop-next.invariant.visited in
    let shorter = moved_shorter b c.visit.new.clauses s c.visit.new.trail c.args.falsified i c.loop-next.invariant.stored moved in
    record {
      whole = c.in_ok-visit.ensures.whole;
      stored = c.in_ok-visit.ensures.stored;
      rest = rest_moved c.args.clauses.now b c.visit.new.clauses c.args.trail.now s c.visit.new.trail c.args.falsified i c.requires.whole c.loop-next.invariant.stored c.loop-next.invariant.rest moved;
      visited = visited_moved b c.visit.new.clauses s c.visit.new.trail c.args.falsified i c.loop-next.invariant.stored moved before;
      inside = omega (arith, shorter, long, found.1);
    }

pub returns-clause-visited : goal.returns-clause-visited
returns-clause-visited c =
    let b : Stored = c.loop-next.clauses in
    let s : TrailState = c.loop-next.trail in
    let long : length c.watching.result.now ≡ length (list_of b.watches c.args.falsified) = c.watching.ensures.long in
    let all : (k : ℕ) → k < length c.watching.result.now → HasTrueAt b (falsified_at s) (id_at b c.args.falsified k) =
    visited_open b s c.args.falsified c.watching.result.now c.loop-next.index
    (length c.watching.result.now) c.watching.ensures.beside c.in_default.ensures.none
    (omega arith) c.loop-next.invariant.visited in
    λ id watches. visited_each b (falsified_at s) c.args.falsified (length c.watching.result.now) c.loop-next.invariant.stored (omega (arith, long)) all id watches
