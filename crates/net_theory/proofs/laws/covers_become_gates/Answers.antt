use Rattle.net_theory.specs.ExpansionLaws.{expanded_is}
use Rattle.net_theory.proofs.laws.covers_become_gates.Goals as goal

pub returns : goal.returns
returns c = expanded_is
