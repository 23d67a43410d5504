use Rattle.op_basis.specs.ListLaws.{basis_some}
use Rattle.op_basis.specs.MemberLaws.{members_among, items_spelled, items_once, set_below}
use Rattle.op_basis.proofs.laws.list_is_its_operators.Goals as goal

pub returns-clause-members : goal.returns-clause-members
returns-clause-members c = members_among

pub returns-clause-words : goal.returns-clause-words
returns-clause-words c = items_spelled

pub returns-clause-once : goal.returns-clause-once
returns-clause-once c = items_once

pub returns-clause-some : goal.returns-clause-some
returns-clause-some c = basis_some

pub returns-clause-below : goal.returns-clause-below
returns-clause-below c = set_below
