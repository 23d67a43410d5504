use Rattle.bench_core.specs.Bench.{bench_format}
use Rattle.improve_windows.specs.ImprovingLaws.{err_complete, bench_fits, bench_improved}
use Rattle.improve_windows.proofs.texts.improve_bench.Goals as goal

pub returns-in_err-circuit-clause-complete : goal.returns-in_err-circuit-clause-complete
returns-in_err-circuit-clause-complete g c = err_complete bench_format c.args.bytes.now c.from_residual.result c.in_err-circuit.field-0.0 c.from_residual.ensures.1 c.in_err-circuit.ensures.complete

pub returns-clause-improved : goal.returns-clause-improved
returns-clause-improved g c =
    bench_improved c.args.settings c.args.bytes.now _ _ c.in_ok-circuit.circuit
    c.in_ok-improved.field-0.improved.circuit _ _ _ _ c.bench_is_a_format.ensures c.circuits_cost_the_same.ensures
    c.requires.basis c.in_ok-circuit.ensures.circuit c.in_ok-improved.ensures.circuit c.in_ok-improved.ensures.better
    c.in_ok-improved.ensures.room
    c.in_ok-text.ensures
    c.in_ok-report.ensures

pub bench_text_of-requires-clause-fits : goal.bench_text_of-requires-clause-fits
bench_text_of-requires-clause-fits g c =
    bench_fits c.args.settings c.args.bytes.now c.in_ok-circuit.circuit c.in_ok-improved.field-0.improved.circuit _ _ _
    _ c.bench_is_a_format.ensures c.requires.basis c.in_ok-circuit.ensures.circuit c.in_ok-improved.ensures.circuit
    c.in_ok-improved.ensures.better c.in_ok-improved.ensures.room
