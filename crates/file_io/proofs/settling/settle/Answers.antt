use Rattle.file_io.proofs.Ends.{nothing_written}
use Rattle.file_io.proofs.settling.settle.Goals as goal

pub returns-then-not-is_begun : goal.returns-then-not-is_begun
returns-then-not-is_begun g c = nothing_written _ _ _ c.is_begun-is_begun.result _ _ _ c.if-not-is_begun.true c.is_begun-is_begun.ensures c.discard-then-not-is_begun.ensures
