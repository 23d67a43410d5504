use Rattle.std.proofs.Common.{◌∙◌, ap, refl}
use Rattle.var_heap.specs.Held.{Held}
use Rattle.cdcl_core.proofs.Decisions.{choosing_scores}
use Rattle.cdcl_core.proofs.deciding.DecisionHeap.add.Goals as goal

pub loop-lit-preserved : goal.loop-lit-preserved
loop-lit-preserved c = record {
  vars = ap (λ (h : Held). h.vars) c.bump.ensures.added ∙ c.loop-lit.invariant.vars;
  kept = λ t before. choosing_scores c.loop-lit.self _ (ap (λ (h : Held). h.vars) c.bump.ensures.added) (ap (λ (h : Held). h.marks) c.bump.ensures.added) refl t (c.loop-lit.invariant.kept t before);
}
