use Rattle.std.proofs.Common.{◌≡◌, ◌<◌, ◌≤◌, ◌∙◌, ℕ, ℤ, [], length, slice_index_or, sym, ap, subst, arith, All}
use Rattle.sat_theory.specs.Formula.{opposite}
use Rattle.cdcl_theory.specs.Trails.{TrailState, falsified_at}
use Rattle.cdcl_theory.specs.TrailLaws.{place_at}
use Rattle.cdcl_core.specs.WatchInvariant.{KeepsWatchInvariant}
use Rattle.cdcl_core.proofs.Guards.{guarded_less, guarded_settled}
use Rattle.cdcl_core.proofs.Visits.{rest_trans, guarded_rest, guarded_next}
use Rattle.cdcl_core.proofs.visiting.propagate_watched.Goals as goal

pub visit_watching-requires-clause-falsified : goal.visit_watching-requires-clause-falsified
visit_watching-requires-clause-falsified c =
    let t : TrailState = c.loop-head.trail in
    let x : ℤ = c.at.result in
    let inside : c.loop-head.head < length t.lits = omega (arith, c.loop-head-test.true, c.len.ensures.value) in
    let place = place_at t.lits (falsified_at t) c.loop-head.head x x c.loop-head.invariant.whole.positions inside (sym (c.at.ensures.value x)) in
    rw c.opposite-falsified.ensures.value (omega (arith, place))

pub returns-in-Some-clause-rest : goal.returns-in-Some-clause-rest
returns-in-Some-clause-rest c = rest_trans c.args.clauses.now c.loop-head.clauses c.visit_watching.new.clauses
    c.args.trail.now c.loop-head.trail c.visit_watching.new.trail c.requires.whole c.loop-head.invariant.rest
    c.in_ok-conflict.ensures.rest

pub returns-in-Some-clause-some : goal.returns-in-Some-clause-some
returns-in-Some-clause-some c = λ starts begun guarded.
    let head : ℕ = c.loop-head.head in
    let begun_head : All (λ x. x ≤ head) starts = λ k d within. (let h : slice_index_or starts k d ≤ c.args.from = begun k d within in omega (arith, h, c.loop-head.invariant.low)) in
    guarded_less c.visit_watching.new.clauses (falsified_at c.visit_watching.new.trail) starts c.args.from head c.loop-head.invariant.low
    (guarded_rest c.loop-head.clauses c.visit_watching.new.clauses c.loop-head.trail c.visit_watching.new.trail starts
    head c.loop-head.invariant.whole c.loop-head.invariant.high begun_head c.in_ok-conflict.ensures.rest
    (c.loop-head.invariant.guarded starts begun guarded))

pub loop-head-preserved : goal.loop-head-preserved
loop-head-preserved c =
    let t : TrailState = c.loop-head.trail in
    let head : ℕ = c.loop-head.head in
    let x : ℤ = c.at.result in
    let falsified : ℤ = c.opposite-falsified.result in
    let inside : c.loop-head.head < length t.lits = omega (arith, c.loop-head-test.true, c.len.ensures.value) in
    let at : opposite (slice_index_or t.lits head falsified) ≡ falsified = ap opposite (sym (c.at.ensures.value falsified)) ∙ sym c.opposite-falsified.ensures.value in
    let visited = rw c.in_default.is at c.in_ok-conflict.ensures.visited in
    record {
      whole = c.in_ok-conflict.ensures.whole;
      stored = c.in_ok-conflict.ensures.stored;
      rest = rest_trans c.args.clauses.now c.loop-head.clauses c.visit_watching.new.clauses c.args.trail.now t
          c.visit_watching.new.trail c.requires.whole c.loop-head.invariant.rest c.in_ok-conflict.ensures.rest;
      low = omega (arith, c.loop-head.invariant.low);
      high = omega (arith, inside, c.in_ok-conflict.ensures.rest.grown.longer);
      guarded = λ starts begun guarded. guarded_next c.loop-head.clauses c.visit_watching.new.clauses t
          c.visit_watching.new.trail starts c.args.from head falsified c.loop-head.invariant.whole
          c.in_ok-conflict.ensures.whole c.loop-head.invariant.low inside at begun c.in_ok-conflict.ensures.rest visited
          (c.loop-head.invariant.guarded starts begun guarded);
    }

pub returns-clause-settled : goal.returns-clause-settled
returns-clause-settled c = λ guarded.
    let t : TrailState = c.loop-head.trail in
    let all : c.loop-head.head ≡ length t.lits = omega (arith, c.loop-head-test.false, c.len.ensures.value, c.loop-head.invariant.high) in
    guarded_settled c.loop-head.clauses t [] c.loop-head.invariant.stored c.loop-head.invariant.whole
    (subst (λ (n : ℕ). KeepsWatchInvariant c.loop-head.clauses (falsified_at t) [] n) all (c.loop-head.invariant.guarded [] (λ k d (low : k < 0). absurd (omega (arith, low))) guarded))
