use Rattle.std.proofs.Common.{append_assoc, refl}
use Rattle.enc_theory.specs.Select.{choosers, chooses}
use Rattle.enc_select.proofs.used.push_choosers.Goals as goal

pub returns : goal.returns
unfolding choosers chooses
returns c = rw (c.in_ok-push-2.ensures.items, c.in_ok-push.ensures.items, c.choice.ensures.value, c.choice-2.ensures.value, append_assoc) refl
