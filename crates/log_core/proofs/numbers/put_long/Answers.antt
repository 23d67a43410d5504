use Rattle.std.proofs.Common.{append_assoc}
use Rattle.log_core.specs.Numbers.{written}
use Rattle.log_core.proofs.numbers.put_long.Goals as goal

pub returns-clause-items : goal.returns-clause-items
unfolding written
returns-clause-items c = rw (c.push_reserved.ensures.items, c.put_leading.ensures.items, c.put_far.ensures.items) (simp append_assoc)
