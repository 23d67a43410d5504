use Rattle.std.proofs.Common.{◌≡◌}
use Rattle.gen_core.specs.Generated.{of_blocks, block_inputs}
use Rattle.gen_core.proofs.generating.inputs.Given as goal

abbrev pub invariant-loop-block : goal.invariant-loop-block
invariant-loop-block l = l.names.items ≡ of_blocks block_inputs l.block
