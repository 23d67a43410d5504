use Rattle.std.proofs.Common.{arith}
use Rattle.op_basis.specs.Basis.{members}
use Rattle.net_basis.proofs.Placements.{chain_expresses}
use Rattle.net_basis.proofs.Sets.{member_low}
use Rattle.net_basis.proofs.placing.push_chain.Goals as goal

pub returns-clause-expressed : goal.returns-clause-expressed
returns-clause-expressed c =
    chain_expresses (members c.args.basis) c.args.sources c.args.a c.args.b c.signal_of.result c.put_operands.new.table
    c.push_joins.new.at c.args.gates.now.items c.push_joins.new.gates.items c.args.joins.now c.args.op
    (λ p is. member_low c.args.basis p (omega (arith, c.get-members.ensures.bits, c.get-members.ensures.below)) is)
    c.requires.gates c.requires.first c.requires.second c.put_operands.ensures.operands
    c.requires.made c.in_ok-push_joins.ensures.placed c.signal_of.ensures
