use Rattle.observe_theory.specs.UnobservableLaws.{sink_same}
use Rattle.observe_theory.proofs.laws.unobservable_rows_keep_the_sinks.Goals as goal

pub returns : goal.returns
returns c = sink_same
