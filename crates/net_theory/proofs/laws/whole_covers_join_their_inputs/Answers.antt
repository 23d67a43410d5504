use Rattle.std.proofs.Common.{length}
use Rattle.net_theory.specs.WholeLaws.{and_value, or_value, xor_value, and_cost, or_cost, xor_cost}
use Rattle.net_theory.proofs.laws.whole_covers_join_their_inputs.Goals as goal

pub returns-clause-and : goal.returns-clause-and
returns-clause-and c = and_value

pub returns-clause-or : goal.returns-clause-or
returns-clause-or c = or_value

pub returns-clause-xor : goal.returns-clause-xor
returns-clause-xor c = λ on bits. xor_value (length bits) on bits

pub returns-clause-cost : goal.returns-clause-cost
returns-clause-cost c = λ width on two. (and_cost width on two, or_cost width on two, xor_cost width on)
