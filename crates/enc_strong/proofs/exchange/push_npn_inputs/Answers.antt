use Rattle.std.proofs.Common.{ℕ, All, sym, ap, subst}
use Rattle.sat_theory.specs.Formula.{Formula}
use Rattle.enc_cuts.specs.Vars.{HaveVars}
use Rattle.enc_strong.proofs.exchange.push_npn_inputs.Goals as goal

pub push_npn_with-requires-clause-slots : goal.push_npn_with-requires-clause-slots
push_npn_with-requires-clause-slots c = subst (λ (v : ℕ). All (HaveVars v) c.args.steps.now) (sym (ap (λ (f : Formula). f.vars) c.loop-p.invariant)) c.requires.slots
