use Rattle.std.proofs.Common.{◌≡◌, ◌≤◌, ◌⊎◌, ◌∙◌, sym, subst, inl, inr, arith, All, List, ℤ}
use Rattle.std.proofs.Math.Logic.{⊎_elim}
use Rattle.std.proofs.lemmas.List.{take_all}
use Rattle.cdcl_theory.specs.Trails.{falsified_at}
use Rattle.conflict_core.proofs.Conflicts.{falsified_more, falsified_there, greater_is}
use Rattle.conflict_core.proofs.analysis.last_falsified.Goals as goal

pub loop-lit-preserved : goal.loop-lit-preserved
loop-lit-preserved c =
    let g = greater_is c.loop-lit.back c.falsified_at.result c.max-back.result c.max-back.ensures in
    let trail_index : c.falsified_at.result ≡ falsified_at c.args.trail.now c.lit-item.result = c.falsified_at.ensures.value in
    let new : falsified_at c.args.trail.now c.lit-item.result ≤ c.max-back.result = omega (arith, g.1, trail_index) in
    let which : (c.max-back.result ≡ c.loop-lit.back) ⊎
    (c.max-back.result ≡ falsified_at c.args.trail.now c.lit-item.result) =
    ⊎_elim (λ (a : c.max-back.result ≡ c.loop-lit.back). inl a)
    (λ (b : c.max-back.result ≡ c.falsified_at.result). inr (b ∙ trail_index)) g.2 in
    record {
      all = falsified_more (falsified_at c.args.trail.now) c.args.lits.now c.loop-lit.lit-index c.loop-lit.back
          c.max-back.result c.lit-item.result c.lit-item.result c.loop-lit-test.true
          (sym c.lit-item.is) c.loop-lit.invariant.all g.0 new;
      there = falsified_there (falsified_at c.args.trail.now) c.args.lits.now c.loop-lit.lit-index c.loop-lit.back
          c.max-back.result c.lit-item.result c.lit-item.result c.loop-lit-test.true
          (sym c.lit-item.is) c.loop-lit.invariant.there which;
    }

pub returns-clause-all : goal.returns-clause-all
returns-clause-all c = subst (λ (xs : List ℤ). All (λ m. falsified_at c.args.trail.now m ≤ c.loop-lit.back) xs)
    (take_all c.loop-lit.lit-index c.args.lits.now (omega (arith, c.loop-lit-test.false))) c.loop-lit.invariant.all
