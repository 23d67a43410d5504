use Rattle.improve_wishes.specs.AgainLaws.{again_expressed}
use Rattle.improve_wishes.proofs.laws.what_is_over_a_basis_is_expressed.Goals as goal

pub returns : goal.returns
returns c = again_expressed
