use Rattle.window_theory.specs.Substituted.{after_substitution}
use Rattle.window_theory.specs.ReplacementLaws.{substituted_is, substituted_values, substituted_implements}
use Rattle.window_theory.proofs.laws.chains_take_places.Goals as goal

pub returns-clause-some : goal.returns-clause-some
returns-clause-some c = λ n w chain net is fits few. (after_substitution n w chain, substituted_is n w chain net is fits few)

pub returns-clause-values : goal.returns-clause-values
returns-clause-values c = substituted_values

pub returns-clause-implements : goal.returns-clause-implements
returns-clause-implements c = substituted_implements
