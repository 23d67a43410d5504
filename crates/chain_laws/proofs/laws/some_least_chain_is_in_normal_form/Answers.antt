use Rattle.chain_laws.specs.Least.{least}
use Rattle.chain_laws.proofs.laws.some_least_chain_is_in_normal_form.Goals as goal

pub returns : goal.returns
returns c = least
