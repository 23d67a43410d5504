use Rattle.std.proofs.Common.{append_assoc}
use Rattle.chain_core.proofs.writing.push_place.Goals as goal

pub returns : goal.returns
returns c = rw (c.in_ok-extend_from_slice.ensures.items, append_assoc) at c.push_number.ensures.ok
