use Rattle.std.proofs.Common.{rules}
use Rattle.tt_core.specs.Words.{specification}
use Rattle.bound_core.specs.CountLaws.{none_below_is}
use Rattle.bound_core.proofs.bound.lower_bound.Goals as goal

pub returns-clause-none_below : goal.returns-clause-none_below
returns-clause-none_below c = none_below_is (specification c.args.spec.now) c.max-2.result (search rules)
