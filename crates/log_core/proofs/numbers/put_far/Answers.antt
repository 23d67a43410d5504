use Rattle.std.proofs.Common.{append_assoc}
use Rattle.log_core.specs.Numbers.{far}
use Rattle.log_core.proofs.numbers.put_far.Goals as goal

pub returns-clause-items : goal.returns-clause-items
unfolding far
returns-clause-items c = rw (c.put_leading-3.ensures.items, c.put_leading-2.ensures.items, c.put_leading.ensures.items) (simp append_assoc)
