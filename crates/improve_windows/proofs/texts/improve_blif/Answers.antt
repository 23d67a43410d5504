use Rattle.std.proofs.Common.{ap, ◌∙◌}
use Rattle.blif_core.specs.Spelling.{spelled}
use Rattle.blif_core.specs.Blif.{blif_format}
use Rattle.improve_windows.specs.ImprovingLaws.{err_complete, blif_improved}
use Rattle.improve_windows.proofs.texts.improve_blif.Goals as goal

pub returns-in_err-circuit-clause-complete : goal.returns-in_err-circuit-clause-complete
returns-in_err-circuit-clause-complete g c = err_complete blif_format c.args.bytes.now c.from_residual.result c.in_err-circuit.field-0.0 c.from_residual.ensures.1 c.in_err-circuit.ensures.complete

pub returns-clause-improved : goal.returns-clause-improved
returns-clause-improved g c =
    blif_improved c.args.settings c.args.bytes.now _ _ c.in_ok-circuit.circuit
    c.in_ok-improved.field-0.improved.circuit _ _ _ _ c.blif_is_a_format.ensures c.in_ok-circuit.ensures.circuit
    c.in_ok-improved.ensures.better c.in_ok-improved.ensures.room
    (c.in_ok-text.ensures ∙ ap spelled c.in_ok-improved.ensures.document)
    c.in_ok-report.ensures
