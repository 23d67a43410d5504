use Rattle.bench_laws.proofs.TextLaws.{text_operators}
use Rattle.bench_laws.proofs.gates_have_operators_of_gates.Goals as goal

pub returns : goal.returns
returns c = text_operators
