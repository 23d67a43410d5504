use Rattle.subst_core.specs.SubstitutionLaws.{substituted_is, agrees_keeps, kept_substituted, substituted_stands, cleaned_up_on, substituted_operators}
use Rattle.subst_core.specs.WatchLaws.{outputs_keep}
use Rattle.subst_core.proofs.laws.substitution_keeps_the_sinks.Goals as goal

pub returns-clause-values : goal.returns-clause-values
returns-clause-values c = substituted_is

pub returns-clause-agree : goal.returns-clause-agree
returns-clause-agree c = agrees_keeps

pub returns-clause-outputs : goal.returns-clause-outputs
returns-clause-outputs c = outputs_keep

pub returns-clause-kept : goal.returns-clause-kept
returns-clause-kept c = kept_substituted

pub returns-clause-implements : goal.returns-clause-implements
returns-clause-implements c = substituted_stands

pub returns-clause-cleaned_up : goal.returns-clause-cleaned_up
returns-clause-cleaned_up c = cleaned_up_on

pub returns-clause-operators : goal.returns-clause-operators
returns-clause-operators c = substituted_operators
