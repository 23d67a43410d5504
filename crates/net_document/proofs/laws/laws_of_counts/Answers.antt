use Rattle.net_document.specs.TimesLaws.{has_times, times_has, distinct_times, times_distinct}
use Rattle.net_document.proofs.laws.laws_of_counts.Goals as goal

pub returns-clause-there : goal.returns-clause-there
returns-clause-there c = has_times

pub returns-clause-counted : goal.returns-clause-counted
returns-clause-counted c = times_has

pub returns-clause-once : goal.returns-clause-once
returns-clause-once c = distinct_times

pub returns-clause-differ : goal.returns-clause-differ
returns-clause-differ c = times_distinct
