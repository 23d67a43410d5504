use Rattle.std.proofs.Common.{ℕ, All, sym, ap, subst, ◌∙◌}
use Rattle.sat_theory.specs.Formula.{Formula}
use Rattle.enc_cuts.specs.Vars.{HaveVars}
use Rattle.enc_theory.specs.Cuts.{no_reapplication_all, no_reapplication_later}
use Rattle.std.specs.List.{flat_map}
use Rattle.clause_core.specs.ListLaws.{all_rest}
use Rattle.enc_cuts.proofs.Walks.{walked, no_reapplication-step}
use Rattle.enc_cuts.proofs.no_reapplication.push_no_reapplication_all.Goals as goal

pub loop-step-preserved : goal.loop-step-preserved
loop-step-preserved c =
    let old = c.loop-step.list in
    let left = c.loop-step.left.now in
    let step = c.in-Some.step.now in
    let later = c.in-Some.later.now in
    let is = c.in_ok-push_no_reapplication_by.ensures in
    let split = c.in-Some.ensures.cases.0 in
    record {
      vars = ap (λ (f : Formula). f.vars) is ∙ c.loop-step.invariant.vars;
      clauses = walked no_reapplication_all (flat_map (no_reapplication_later step) later) old.clauses
          c.push_no_reapplication_by.new.list.clauses _ left later step (ap (λ (f : Formula). f.clauses) is) split
          (no_reapplication-step step later) c.loop-step.invariant.clauses;
      slots = subst (λ (v : ℕ). All (HaveVars v) later) (sym (ap (λ (f : Formula). f.vars) is)) (all_rest (HaveVars old.vars) left later step split c.loop-step.invariant.slots);
    }
