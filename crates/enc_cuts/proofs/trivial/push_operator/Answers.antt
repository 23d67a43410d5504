use Rattle.std.proofs.Common.{append_assoc}
use Rattle.enc_theory.specs.Families.{operator_raw}
use Rattle.enc_cuts.proofs.trivial.push_operator.Goals as goal

pub returns : goal.returns
unfolding operator_raw
returns c =
    rw (c.in_ok-push-4.ensures.items, c.in_ok-push-3.ensures.items, c.in_ok-push-2.ensures.items, c.in_ok-push.ensures.items)
    (rw (c.f_var.ensures.value, c.f_var-2.ensures.value, c.f_var-3.ensures.value, c.f_var-4.ensures.value, c.apply.ensures, c.apply-2.ensures, c.apply-3.ensures, c.apply-4.ensures)
    (simp append_assoc))
