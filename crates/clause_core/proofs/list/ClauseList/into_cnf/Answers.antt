use Rattle.std.proofs.Common.{ap, ◌∙◌, arith, ◌≡◌, ◌+◌, length}
use Rattle.std.specs.Vec.Iter.{into_iter_items, into_iter_len}
use Rattle.sat_theory.specs.Formula.{Formula, IsWithin}
use Rattle.clause_core.specs.ListLaws.{all_rest, moved, moved-length, rest-length}
use Rattle.clause_core.proofs.list.ClauseList.into_cnf.Goals as goal

pub loop-clause-preserved : goal.loop-clause-preserved
loop-clause-preserved c =
    let pushed = ap (λ (f : Formula). f.clauses) c.in_ok-push.ensures.ok in
    let step = c.in-Some.ensures.steps in
    let all = into_iter_items c.loop-clause.clause-iterator in
    let rest = into_iter_items c.next.new.self in
    let kept : length c.push.new.self.clauses + length rest ≡ length c.loop-clause.cnf.clauses + length all =
    moved-length c.loop-clause.cnf.clauses c.push.new.self.clauses all rest c.in-Some.clause pushed step.0 in
    record {
      next = tt;
      finite = tt;
      vars = ap (λ (f : Formula). f.vars) c.in_ok-push.ensures.ok ∙ c.loop-clause.invariant.vars;
      same = moved c.loop-clause.cnf.clauses c.push.new.self.clauses all rest c.in-Some.clause pushed step.0 ∙ c.loop-clause.invariant.same;
      left = rest-length all rest c.in-Some.clause (into_iter_len c.loop-clause.clause-iterator) (into_iter_len c.next.new.self) step.0 c.loop-clause.invariant.left step.1;
      within = all_rest (IsWithin c.args.self.vars) all rest c.in-Some.clause step.0 c.loop-clause.invariant.within;
      few = omega (arith, kept, c.loop-clause.invariant.few);
    }
