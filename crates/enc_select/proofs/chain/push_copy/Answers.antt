use Rattle.enc_theory.specs.Select.{copy_raw}
use Rattle.enc_select.proofs.chain.push_copy.Goals as goal

pub returns : goal.returns
unfolding copy_raw
returns c = rw (c.choice.ensures.value, c.value.ensures.value, c.x_is.ensures.value) at c.push.ensures.written
