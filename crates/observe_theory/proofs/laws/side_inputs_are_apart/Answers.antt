use Rattle.observe_theory.specs.FanoutConeLaws.{follower_high, side_input_apart}
use Rattle.observe_theory.specs.ApartLaws.{observing_free, apart_value}
use Rattle.observe_theory.proofs.laws.side_inputs_are_apart.Goals as goal

pub returns-clause-rising : goal.returns-clause-rising
returns-clause-rising c = follower_high

pub returns-clause-side_inputs : goal.returns-clause-side_inputs
returns-clause-side_inputs c = side_input_apart

pub returns-clause-inputs : goal.returns-clause-inputs
returns-clause-inputs c = λ n w p is on. is.apart p on

pub returns-clause-leaves : goal.returns-clause-leaves
returns-clause-leaves c = λ n w t leaves p net is fanout_cone are on. (observing_free n w t leaves net is fanout_cone are).apart p on

pub returns-clause-values : goal.returns-clause-values
returns-clause-values c = apart_value
