use Rattle.std.proofs.Common.{subst, refl}
use Rattle.op_basis.specs.Basis.{members}
use Rattle.net_basis.specs.OverBasis.{IsNetAnswer}
use Rattle.net_basis.specs.OverBasisLaws.{circuit_over}
use Rattle.net_basis.proofs.circuits.over_basis.Goals as goal

pub returns-in-Over-clause-over : goal.returns-in-Over-clause-over
returns-in-Over-clause-over c =
    circuit_over (members c.args.basis) c.args.circuit c.with_net.result c.in-Over.net c.requires
    (subst (IsNetAnswer (members c.args.basis) c.args.circuit.net) c.in-Over.is c.in_ok-net_of_circuit.ensures) c.with_net.ensures

pub returns-in-Itself-clause-over : goal.returns-in-Itself-clause-over
returns-in-Itself-clause-over c =
    circuit_over (members c.args.basis) c.args.circuit c.args.circuit c.args.circuit.net c.requires
    (subst (IsNetAnswer (members c.args.basis) c.args.circuit.net) c.in-Itself.is c.in_ok-net_of_circuit.ensures) refl
