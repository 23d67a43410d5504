use Rattle.std.proofs.Common.{◌∙◌}
use Rattle.conflict_core.proofs.analysis.Analysis.refute.Goals as goal

pub returns-clause-ready : goal.returns-clause-ready
returns-clause-ready c = c.clear.ensures c.args.trail.now.vars (c.refutation_hints-hints.ensures.marks
    ∙ c.requires.ready.clear.room) (c.refutation_hints-hints.ensures.verdicts ∙ c.requires.ready.verdicts)
