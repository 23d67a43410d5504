use Rattle.enc_select.specs.Descents.{descent}
use Rattle.enc_select.proofs.descents.push_descent.Goals as goal

pub returns : goal.returns
unfolding descent
returns c = rw (c.choice.ensures.value, c.choice-2.ensures.value) at c.push.ensures.written
