use Rattle.window_core.specs.PartnerSearchLaws.{onward_stays}
use Rattle.window_core.proofs.partner_list.onward.Goals as goal

pub returns-then-fanout-found : goal.returns-then-fanout-found
returns-then-fanout-found c = λ bound was low within. onward_stays c.args.net.now bound c.args.node c.args.fanout c.args.found was low within c.if-fanout-found.true
