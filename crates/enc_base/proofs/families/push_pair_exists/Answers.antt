use Rattle.std.proofs.Common.{ℕ, sym, ap, subst}
use Rattle.sat_theory.specs.Formula.{Formula}
use Rattle.enc_theory.specs.Pairs.{StepSlots}
use Rattle.enc_base.specs.Room.{HasPairs}
use Rattle.enc_base.proofs.families.push_pair_exists.Goals as goal

pub push_pair_exists_at-requires : goal.push_pair_exists_at-requires
push_pair_exists_at-requires c =
    let step : StepSlots = c.step-item.result in
    let has : HasPairs c.args.list.now.vars step = subst (HasPairs c.args.list.now.vars) (sym c.step-item.is)
    (c.requires c.loop-step.step-index step c.loop-step-test.true) in
    subst (λ (vars : ℕ). HasPairs vars step) (sym (ap (λ (f : Formula). f.vars) c.loop-step.invariant)) has
