use Rattle.tt_core.specs.FirstFitLaws.{none_fits, none_where_none_fits, found_first}
use Rattle.tt_core.proofs.laws.trivial_is_first_fit.Goals as goal

pub returns-clause-none : goal.returns-clause-none
returns-clause-none c s h = (none_fits s h, none_where_none_fits s h)

pub returns-clause-first : goal.returns-clause-first
returns-clause-first c = found_first
