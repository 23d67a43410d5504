use Rattle.subsume_core.proofs.Flags.{units_added}
use Rattle.subsume_core.proofs.units.Units.note.Goals as goal

pub returns : goal.returns
returns c = λ s units within. units_added s c.args.lits.now c.args.self.now c.flag.new.self units within c.flag.ensures
