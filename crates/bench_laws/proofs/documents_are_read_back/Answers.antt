use Rattle.bench_laws.proofs.ReadBack.{read_back}
use Rattle.bench_laws.proofs.documents_are_read_back.Goals as goal

pub returns : goal.returns
returns c = read_back
