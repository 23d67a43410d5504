use Rattle.depth_theory.specs.Flatter.{fences_for}
use Rattle.depth_theory.specs.FlatterLaws.{flatter_has, flatter_is, flatter_rise}
use Rattle.depth_theory.proofs.laws.flatter_fences_are_listed_by_levels.Goals as goal

pub returns-clause-each : goal.returns-clause-each
returns-clause-each c = λ w r d. flatter_has (fences_for w r) d

pub returns-clause-only : goal.returns-clause-only
returns-clause-only c = λ w r d. flatter_is (fences_for w r) d

pub returns-clause-rising : goal.returns-clause-rising
returns-clause-rising c = λ w r d. flatter_rise (fences_for w r) d
