use Rattle.bench_laws.proofs.LineFaults.{text_faulty}
use Rattle.bench_laws.proofs.lines_have_few_faults.Goals as goal

pub returns : goal.returns
returns c = text_faulty
