use Rattle.std.proofs.Common.{rules}
use Rattle.cnf_core.proofs.Pushed.{cnf_pushed}
use Rattle.cnf_core.proofs.cnf.Cnf.push.Goals as goal

pub invariant_of-self-2 : goal.invariant_of-self-2
invariant_of-self-2 c = cnf_pushed c.self.inside.vars c.self.inside.clauses.items _ c.args.clause c.in_ok-push.ensures.items c.self.invariant c.lits-lits.ensures.whole (search rules) (search rules)
