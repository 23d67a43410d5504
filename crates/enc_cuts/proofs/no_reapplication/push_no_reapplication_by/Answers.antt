use Rattle.std.proofs.Common.{ℕ, sym, ap, subst}
use Rattle.sat_theory.specs.Formula.{Formula}
use Rattle.enc_cuts.specs.Vars.{HaveVars}
use Rattle.enc_cuts.proofs.no_reapplication.push_no_reapplication_by.Goals as goal

pub push_no_reapplication_later-requires-clause-later : goal.push_no_reapplication_later-requires-clause-later
push_no_reapplication_later-requires-clause-later c =
    let vars = c.args.list.now.vars in
    let other = c.other-item.result in
    let has : HaveVars vars other = subst (HaveVars vars) (sym c.other-item.is) (c.requires.later c.loop-other.other-index other c.loop-other-test.true) in
    subst (λ (v : ℕ). HaveVars v other) (sym (ap (λ (f : Formula). f.vars) c.loop-other.invariant)) has
