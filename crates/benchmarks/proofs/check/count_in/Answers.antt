use Rattle.benchmarks.proofs.Numbers.{small}
use Rattle.benchmarks.proofs.check.count_in.Goals as goal

pub returns : goal.returns
returns c = small c.args.text.now c.number_up_to.result c.number_up_to.ensures
