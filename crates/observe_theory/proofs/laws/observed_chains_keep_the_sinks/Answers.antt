use Rattle.observe_theory.specs.ObservedLaws.{observed_fits, sinks_kept}
use Rattle.observe_theory.proofs.laws.observed_chains_keep_the_sinks.Goals as goal

pub returns-clause-fit : goal.returns-clause-fit
returns-clause-fit c = observed_fits

pub returns-clause-sinks : goal.returns-clause-sinks
returns-clause-sinks c = sinks_kept
