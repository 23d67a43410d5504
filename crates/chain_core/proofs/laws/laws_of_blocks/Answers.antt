use Rattle.chain_core.specs.WrittenBlockLaws.{block_back, block_spells}
use Rattle.chain_core.proofs.laws.laws_of_blocks.Goals as goal

pub returns : goal.returns
returns c = record { back = block_back; only = block_spells }
