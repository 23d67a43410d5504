use Rattle.std.proofs.Common.{refl}
use Rattle.net_core.specs.Marks.{nodes_of}
use Rattle.net_basis.proofs.table.signal_of.Goals as goal

pub returns : goal.returns
unfolding nodes_of
returns c = rw (c.from.ensures, c.get.ensures.word) refl
