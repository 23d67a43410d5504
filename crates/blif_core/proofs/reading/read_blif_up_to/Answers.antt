use Rattle.blif_text.specs.ListingLaws.{texts_list}
use Rattle.net_document.specs.Format.{up_to}
use Rattle.blif_core.specs.RefusedLaws.{line_memory, document_memory}
use Rattle.blif_core.specs.Blif.{blif_format}
use Rattle.blif_core.proofs.reading.read_blif_up_to.Goals as goal

pub returns-in_err-listed-clause-complete : goal.returns-in_err-listed-clause-complete
returns-in_err-listed-clause-complete c = line_memory (up_to c.args.most blif_format) c.args.bytes.now c.from_residual.result c.in_err-listed.field-0.0 texts_list c.from_residual.ensures.1 c.in_err-listed.ensures.exact

pub returns-in_err-circuit_of-clause-complete : goal.returns-in_err-circuit_of-clause-complete
returns-in_err-circuit_of-clause-complete c = document_memory (up_to c.args.most blif_format) c.args.bytes.now c.in_ok-listed.listed
    c.from_residual-in_err-circuit_of.result c.in_err-circuit_of.field-0.0 texts_list
    c.from_residual-in_err-circuit_of.ensures.1 c.in_ok-listed.ensures.exact c.in_err-circuit_of.ensures.refused
