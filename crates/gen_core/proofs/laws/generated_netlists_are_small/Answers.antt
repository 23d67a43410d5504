use Rattle.gen_core.proofs.Sizes.{text_small}
use Rattle.gen_core.proofs.laws.generated_netlists_are_small.Goals as goal

pub returns : goal.returns
returns c blocks few = text_small blocks few
