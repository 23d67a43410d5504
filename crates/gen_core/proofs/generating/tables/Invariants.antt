use Rattle.std.proofs.Common.{◌≡◌}
use Rattle.gen_core.specs.Generated.{of_blocks, block_tables}
use Rattle.gen_core.proofs.generating.tables.Given as goal

abbrev pub invariant-loop-block : goal.invariant-loop-block
invariant-loop-block l = l.tables.items ≡ of_blocks block_tables l.block
