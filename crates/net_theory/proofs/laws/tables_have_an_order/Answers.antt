use Rattle.net_theory.specs.GraphLaws.{acyclic_order, order_acyclic}
use Rattle.net_theory.proofs.laws.tables_have_an_order.Goals as goal

pub returns-clause-some : goal.returns-clause-some
returns-clause-some c = acyclic_order

pub returns-clause-only : goal.returns-clause-only
returns-clause-only c = order_acyclic
