use Rattle.std.proofs.Common.{ℕ, All, sym, ap, subst}
use Rattle.sat_theory.specs.Formula.{Formula}
use Rattle.enc_base.specs.Room.{HasSlots}
use Rattle.enc_strong.proofs.differences.push_edge_steps.Goals as goal

pub push_edge_step-requires-clause-steps : goal.push_edge_step-requires-clause-steps
push_edge_step-requires-clause-steps c = subst (λ (v : ℕ). All (HasSlots c.args.z v) c.args.steps.now) (sym (ap (λ (f : Formula). f.vars) c.loop-step.invariant)) c.requires.steps
