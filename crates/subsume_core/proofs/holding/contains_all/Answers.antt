use Rattle.subsume_core.proofs.Sets.{all_contained, all_among}
use Rattle.subsume_core.proofs.holding.contains_all.Goals as goal

pub returns-clause-inside : goal.returns-clause-inside
returns-clause-inside c = λ yes_. all_contained c.args.lits.now c.args.inner.now (c.all_among.ensures.0 yes_)

pub returns-clause-only : goal.returns-clause-only
returns-clause-only c = λ all. c.all_among.ensures.1 (all_among c.args.lits.now c.args.inner.now all)
