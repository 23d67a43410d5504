use Rattle.net_theory.specs.DanglingLaws.{cleanup_is, cleanup_operators}
use Rattle.net_theory.proofs.laws.dangling_gates_can_be_removed.Goals as goal

pub returns-clause-left : goal.returns-clause-left
returns-clause-left c = cleanup_is

pub returns-clause-operators : goal.returns-clause-operators
returns-clause-operators c = cleanup_operators
