use Rattle.op_basis.specs.Laws.{every_each, each_every}
use Rattle.op_basis.proofs.laws.every_is_each.Goals as goal

pub returns-clause-each : goal.returns-clause-each
returns-clause-each c = every_each

pub returns-clause-all : goal.returns-clause-all
returns-clause-all c = each_every
