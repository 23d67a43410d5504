use Rattle.bench_laws.proofs.TextFormats.{bench_is_format}
use Rattle.bench_laws.proofs.bench_is_a_format.Goals as goal

pub returns : goal.returns
returns c = bench_is_format c.blif_is_a_format.ensures
