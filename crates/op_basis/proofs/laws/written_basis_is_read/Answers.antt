use Rattle.op_basis.specs.ReadBack.{basis_back}
use Rattle.op_basis.proofs.laws.written_basis_is_read.Goals as goal

pub returns : goal.returns
returns c = basis_back
