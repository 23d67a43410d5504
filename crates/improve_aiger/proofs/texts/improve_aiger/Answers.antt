use Rattle.aiger_forms.specs.Forms.{aiger_forms}
use Rattle.improve_windows.specs.ImprovingLaws.{err_complete}
use Rattle.improve_aiger.specs.AigerLaws.{aiger_can, aiger_improved}
use Rattle.improve_aiger.proofs.texts.improve_aiger.Goals as goal

pub returns-in_err-circuit-clause-complete : goal.returns-in_err-circuit-clause-complete
returns-in_err-circuit-clause-complete g c =
    err_complete aiger_forms c.args.bytes.now c.from_residual.result c.in_err-circuit.field-0.0 c.from_residual.ensures.1
    c.in_err-circuit.ensures.complete

pub returns-clause-improved : goal.returns-clause-improved
returns-clause-improved g c =
    aiger_improved c.args.settings c.args.bytes.now _ _ c.in_ok-circuit.circuit
    c.in_ok-improved.field-0.improved.circuit _ _ _ _ _ c.forms_are_a_format.ensures c.requires.basis
    c.in_ok-circuit.ensures.circuit c.in_ok-improved.ensures.circuit c.in_ok-improved.ensures.better
    c.in_ok-improved.ensures.room
    c.in_ok-text.ensures.text c.in_ok-text.ensures.cost c.in_ok-text.ensures.cheap
    c.in_ok-report.ensures

pub costed_text-requires : goal.costed_text-requires
costed_text-requires g c =
    aiger_can c.args.settings c.args.bytes.now c.in_ok-circuit.circuit c.in_ok-improved.field-0.improved.circuit _ _ _
    _ c.forms_are_a_format.ensures c.requires.basis c.in_ok-circuit.ensures.circuit c.in_ok-improved.ensures.circuit
    c.in_ok-improved.ensures.better c.in_ok-improved.ensures.room
