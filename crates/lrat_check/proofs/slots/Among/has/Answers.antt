use Rattle.lrat_check.proofs.Filled.{slot_reports}
use Rattle.lrat_check.proofs.slots.Among.has.Goals as goal

pub returns : goal.returns
returns c = slot_reports c.args.self.now.slots c.args.self.now.lits.now c.args.lit c.code-code.result c.requires c.code-code.ensures.value c.if-slot-eq1.false
