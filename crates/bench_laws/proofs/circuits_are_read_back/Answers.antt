use Rattle.bench_laws.proofs.CircuitTexts.{text_is}
use Rattle.bench_laws.proofs.circuits_are_read_back.Goals as goal

pub returns : goal.returns
returns c = λ k can. text_is k c.blif_is_a_format.ensures can
