use Rattle.subsume_core.proofs.Flags.{flagged_read}
use Rattle.subsume_core.proofs.units.Units.flag_live.Goals as goal

pub returns : goal.returns
returns c = λ before next are. flagged_read c.args.clauses.now before c.args.id c.arranged.result.now c.args.self.now
    c.flag.new.self next c.arranged.ensures.long c.arranged.ensures.same c.arranged.ensures.over c.flag.ensures are
