use Rattle.bench_core.specs.Bench.{bench_format}
use Rattle.bench_laws.specs.Spelled.{CanWriteBench}
use Rattle.improve_wishes.specs.TextLaws.{base_at, bench_can}
use Rattle.improve_wishes.specs.WishedLaws.{over_where, bench_writes, wished}
use Rattle.improve_wishes.proofs.texts.wished_bench.Goals as goal

pub returns-in_ok-improved-in-Base-clause-wished : goal.returns-in_ok-improved-in-Base-clause-wished
returns-in_ok-improved-in-Base-clause-wished g c =
    wished bench_format CanWriteBench c.args.settings c.args.wishes c.args.bytes.now _ _ c.in_ok-circuit.circuit
    c.in-Base.base c.bench_is_a_format.ensures
    (over_where c.args.wishes.only bench_format CanWriteBench bench_writes)
    c.in_ok-circuit.ensures.circuit
    (base_at c.args.wishes.only c.args.settings c.in_ok-circuit.circuit c.in-Base.base c.in_ok-found.found c.in-Base.is
    c.in_ok-found.ensures.base) c.in_ok-improved-in-Base.ensures

pub bench_of-requires-clause-can : goal.bench_of-requires-clause-can
bench_of-requires-clause-can g c =
    bench_can c.args.wishes.only c.args.settings c.args.bytes.now c.in_ok-circuit.circuit c.in-Base.base
    c.in_ok-found.found c.bench_is_a_format.ensures c.requires.basis c.in_ok-circuit.ensures.circuit c.in-Base.is
    c.in_ok-found.ensures.base
