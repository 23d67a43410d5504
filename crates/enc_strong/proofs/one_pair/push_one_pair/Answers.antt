use Rattle.std.proofs.Common.{ℕ, sym, ap, subst}
use Rattle.sat_theory.specs.Formula.{Formula}
use Rattle.enc_cuts.specs.Vars.{HaveVars}
use Rattle.enc_strong.proofs.one_pair.push_one_pair.Goals as goal

pub push_one_pair_step-requires : goal.push_one_pair_step-requires
push_one_pair_step-requires c =
    let vars = c.args.list.now.vars in
    let step = c.step-item.result in
    let has : HaveVars vars step = subst (HaveVars vars) (sym c.step-item.is) (c.requires c.loop-step.step-index step c.loop-step-test.true) in
    subst (λ (v : ℕ). HaveVars v step) (sym (ap (λ (f : Formula). f.vars) c.loop-step.invariant)) has
