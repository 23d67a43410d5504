use Rattle.tt_core.specs.LiveOutputLaws.{among_rises, contained_live, live_contained}
use Rattle.tt_core.proofs.laws.live_outputs_are_listed.Goals as goal

pub returns-clause-rising : goal.returns-clause-rising
returns-clause-rising c s = among_rises s s.outputs

pub returns-clause-live : goal.returns-clause-live
returns-clause-live c s h = (contained_live s h, live_contained s h)
