use Rattle.net_theory.specs.Limits.{default_gates}
use Rattle.bench_laws.proofs.TextFormats.{text_fits}
use Rattle.bench_laws.proofs.circuits_of_texts_can_be_written.Goals as goal

pub returns : goal.returns
returns c = text_fits default_gates
