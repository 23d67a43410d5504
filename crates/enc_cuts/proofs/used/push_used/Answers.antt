use Rattle.std.proofs.Common.{ℕ, All, sym, ap, subst, ◌∙◌}
use Rattle.sat_theory.specs.Formula.{Formula}
use Rattle.enc_base.specs.Room.{HasSlots}
use Rattle.enc_theory.specs.Cuts.{used, used_by}
use Rattle.clause_core.specs.ListLaws.{all_rest}
use Rattle.enc_cuts.proofs.Walks.{walked, used-step}
use Rattle.enc_cuts.proofs.used.push_used.Goals as goal

pub loop-step-preserved : goal.loop-step-preserved
loop-step-preserved c =
    let old = c.loop-step.list in
    let left = c.loop-step.left.now in
    let step = c.in-Some.step.now in
    let later = c.in-Some.later.now in
    let is = c.in_ok-push_used_by.ensures in
    let split = c.in-Some.ensures.cases.0 in
    record {
      vars = ap (λ (f : Formula). f.vars) is ∙ c.loop-step.invariant.vars;
      clauses = walked (used c.args.z) (used_by c.args.z step later) old.clauses c.push_used_by.new.list.clauses _ left
          later step (ap (λ (f : Formula). f.clauses) is) split
          (used-step c.args.z step later) c.loop-step.invariant.clauses;
      slots = subst (λ (v : ℕ). All (HasSlots c.args.z v) later) (sym (ap (λ (f : Formula). f.vars) is)) (all_rest (HasSlots c.args.z old.vars) left later step split c.loop-step.invariant.slots);
    }
