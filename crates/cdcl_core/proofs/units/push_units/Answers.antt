use Rattle.std.proofs.Common.{◌≡◌, ℕ, ◌+◌, ◌≤◌, ◌∙◌, ℤ, List, sym, subst, arith}
use Rattle.std.proofs.lemmas.List.Elements.{All-contains}
use Rattle.sat_theory.specs.Formula.{variable}
use Rattle.cdcl_theory.specs.Trails.{TrailState, IsTrail, IsGrown, falsified_at, pushed}
use Rattle.clause_db.specs.Stored.{live_in}
use Rattle.clause_db.specs.Members.{AreMembersOf, members_read}
use Rattle.cdcl_core.proofs.Growing.{grown_trans, grown_pushed}
use Rattle.cdcl_core.proofs.Judging.{left_implies, row_falsified}
use Rattle.cdcl_core.proofs.UnitClauses.{units_settled, units_pushed, units_guarded}
use Rattle.cdcl_core.proofs.units.push_units.Goals as goal

pub loop-index-preserved-in-Settled : goal.loop-index-preserved-in-Settled
loop-index-preserved-in-Settled c = record {
  whole = c.loop-index.invariant.whole;
  grown = c.loop-index.invariant.grown;
  units = units_settled (live_in c.args.clauses.now) (falsified_at c.loop-index.trail) c.loop-index.index
      c.arranged-in-loop-index.result.now c.arranged-in-loop-index.ensures.same c.in-Settled.ensures
      c.loop-index.invariant.units;
}

pub loop-index-preserved : goal.loop-index-preserved
loop-index-preserved c =
    let old : TrailState = c.loop-index.trail in
    let lits : List ℤ = c.arranged-in-loop-index.result.now in
    let same = c.arranged-in-loop-index.ensures.same in
    let read : AreMembersOf (live_in c.args.clauses.now) (c.loop-index.index + 1) lits =
    members_read (live_in c.args.clauses.now) (c.loop-index.index + 1) lits
    (c.live.ensures.0 c.if-not-live.false) same in
    let is : c.push.new.self ≡ pushed old c.in-Unit.lit (c.loop-index.index + 1) = c.in_ok-push-in-Unit.ensures.ok in
    let small = All-contains (λ m. variable m ≤ c.args.clauses.now.vars) lits c.in-Unit.lit c.arranged-in-loop-index.ensures.over c.in-Unit.ensures.there in
    let over : variable c.in-Unit.lit ≤ old.vars = subst (λ (n : ℕ). variable c.in-Unit.lit ≤ n) (c.requires.vars ∙ sym c.loop-index.invariant.grown.vars) small in
    let step : IsGrown (live_in c.args.clauses.now) old (pushed old c.in-Unit.lit (c.loop-index.index + 1)) =
    grown_pushed (live_in c.args.clauses.now) old c.in-Unit.lit (c.loop-index.index + 1) c.loop-index.invariant.whole
    over (c.in-Unit.ensures.up, c.in-Unit.ensures.down)
    (left_implies (live_in c.args.clauses.now) old (c.loop-index.index + 1) lits c.in-Unit.lit
    c.loop-index.invariant.whole read c.in-Unit.ensures) in
    let after : IsTrail (pushed old c.in-Unit.lit (c.loop-index.index + 1)) = subst IsTrail is c.in_ok-push-in-Unit.ensures.whole in
    record {
      whole = c.in_ok-push-in-Unit.ensures.whole;
      grown = rw is (grown_trans (live_in c.args.clauses.now) c.args.trail.now old (pushed old c.in-Unit.lit (c.loop-index.index + 1)) c.loop-index.invariant.grown step);
      units = rw is (units_pushed (live_in c.args.clauses.now) old c.loop-index.index
          (c.loop-index.index + 1) lits c.in-Unit.lit same after c.loop-index.invariant.whole c.in-Unit.ensures.there
          step c.loop-index.invariant.units);
    }

pub returns-in-Falsified-clause-conflict : goal.returns-in-Falsified-clause-conflict
returns-in-Falsified-clause-conflict c =
    let lits : List ℤ = c.arranged-in-loop-index.result.now in
    let read : AreMembersOf (live_in c.args.clauses.now) (c.loop-index.index + 1) lits =
    members_read (live_in c.args.clauses.now) (c.loop-index.index + 1) lits
    (c.live.ensures.0 c.if-not-live.false) c.arranged-in-loop-index.ensures.same in
    row_falsified (live_in c.args.clauses.now) (falsified_at c.loop-index.trail) (c.loop-index.index + 1) lits read c.in-Falsified.ensures

pub returns-clause-guarded : goal.returns-clause-guarded
returns-clause-guarded c = units_guarded c.args.clauses.now (falsified_at c.loop-index.trail) c.loop-index.index
    (omega (arith, c.last-index-end.ensures.value, c.loop-index-test.false)) c.loop-index.invariant.units
