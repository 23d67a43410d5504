use Rattle.std.proofs.Common.{◌∙◌}
use Rattle.conflict_core.proofs.analysis.Analysis.learn.Goals as goal

pub first_uip_clause-learnt-requires-clause-conflict : goal.first_uip_clause-learnt-requires-clause-conflict
first_uip_clause-learnt-requires-clause-conflict c =
    record {
      level = c.requires.level;
      closed = c.requires.closed;
      reasons = c.requires.reasons;
      explained = c.requires.explained;
      is_falsified = c.requires.conflict;
    }

pub returns-then-is_err-clause-ready : goal.returns-then-is_err-clause-ready
returns-then-is_err-clause-ready c = c.clear.ensures c.args.trail.now.vars (c.first_uip_clause-learnt.ensures.marks
    ∙ c.requires.ready.clear.room) (c.first_uip_clause-learnt.ensures.verdicts ∙ c.requires.ready.verdicts)
