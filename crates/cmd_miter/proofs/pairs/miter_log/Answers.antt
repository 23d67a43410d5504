use Rattle.equiv_run.specs.SmallLaws.{small_circuit}
use Rattle.cmd_miter.proofs.Finding.{log_found, first_passed, second_passed, other_passed}
use Rattle.cmd_miter.proofs.pairs.miter_log.Goals as goal

pub write_circuit_log-requires-clause-small : goal.write_circuit_log-requires-clause-small
write_circuit_log-requires-clause-small g c = small_circuit _ c.in_ok-one.one c.requires.first c.in_ok-one.ensures.circuit

pub write_circuit_log-requires-clause-other : goal.write_circuit_log-requires-clause-other
write_circuit_log-requires-clause-other g c = small_circuit _ c.in_ok-other.other c.requires.second c.in_ok-other.ensures.circuit

pub returns-clause-answer : goal.returns-clause-answer
returns-clause-answer g c =
    log_found c.args.conflicts c.args.first.now c.args.second.now c.in_ok-one.one c.in_ok-other.other _ _
    c.in_ok-one.ensures.circuit c.in_ok-other.ensures.circuit c.in_ok-compared.ensures.logged

pub returns-in_err-one-clause-refused : goal.returns-in_err-one-clause-refused
returns-in_err-one-clause-refused g c =
    first_passed c.args.first.now c.args.second.now _ c.in_err-one.field-0.0 c.from_residual.ensures.1
    c.in_err-one.ensures.refused

pub returns-in_err-other-clause-refused : goal.returns-in_err-other-clause-refused
returns-in_err-other-clause-refused g c =
    second_passed c.args.first.now c.args.second.now c.in_ok-one.one _ c.in_err-other.field-0.0
    c.from_residual-in_err-other.ensures.1 c.in_ok-one.ensures.circuit c.in_err-other.ensures.refused

pub returns-in_err-compared-clause-refused : goal.returns-in_err-compared-clause-refused
returns-in_err-compared-clause-refused g c =
    other_passed c.args.first.now c.args.second.now c.in_ok-one.one c.in_ok-other.other _ c.in_err-compared.field-0.0
    c.from_residual-in_err-compared.ensures.1 c.in_ok-one.ensures.circuit c.in_ok-other.ensures.circuit
    c.in_err-compared.ensures.refused
