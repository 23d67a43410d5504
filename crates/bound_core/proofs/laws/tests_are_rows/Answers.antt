use Rattle.bound_core.specs.CountLaws.{uses_is, differ_is}
use Rattle.bound_core.specs.TestLaws.{is_uses, is_differ}
use Rattle.bound_core.proofs.laws.tests_are_rows.Goals as goal

pub returns-clause-uses : goal.returns-clause-uses
returns-clause-uses c s h j some low = (uses_is s h j some low, is_uses s h j some low)

pub returns-clause-differ : goal.returns-clause-differ
returns-clause-differ c s g h = (differ_is s g h, is_differ s g h)
