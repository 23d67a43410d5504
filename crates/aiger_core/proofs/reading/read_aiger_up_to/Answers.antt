use Rattle.aiger_core.proofs.Readings.{line_memory, document_memory}
use Rattle.aiger_core.proofs.reading.read_aiger_up_to.Goals as goal

pub returns-in_err-listed-clause-complete : goal.returns-in_err-listed-clause-complete
returns-in_err-listed-clause-complete c = line_memory c.args.most c.args.bytes.now c.from_residual.result c.in_err-listed.field-0.0 c.from_residual.ensures.1 c.in_err-listed.ensures.exact

pub returns-in_err-circuit_of-clause-complete : goal.returns-in_err-circuit_of-clause-complete
returns-in_err-circuit_of-clause-complete c = document_memory c.args.most c.args.bytes.now c.in_ok-listed.listed
    c.from_residual-in_err-circuit_of.result c.in_err-circuit_of.field-0.0
    c.from_residual-in_err-circuit_of.ensures.1 c.in_ok-listed.ensures.exact c.in_err-circuit_of.ensures.refused
