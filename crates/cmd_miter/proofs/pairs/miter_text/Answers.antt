use Rattle.equiv_run.specs.SmallLaws.{small_circuit}
use Rattle.cmd_miter.proofs.Finding.{miter_found, first_passed, second_passed, other_passed}
use Rattle.cmd_miter.proofs.pairs.miter_text.Goals as goal

pub write_formula-requires-clause-small : goal.write_formula-requires-clause-small
write_formula-requires-clause-small g c = small_circuit _ c.in_ok-one.one c.requires.first c.in_ok-one.ensures.circuit

pub write_formula-requires-clause-other : goal.write_formula-requires-clause-other
write_formula-requires-clause-other g c = small_circuit _ c.in_ok-other.other c.requires.second c.in_ok-other.ensures.circuit

pub returns-clause-answer : goal.returns-clause-answer
returns-clause-answer g c =
    miter_found c.args.first.now c.args.second.now c.in_ok-one.one c.in_ok-other.other _ c.in_ok-one.ensures.circuit
    c.in_ok-other.ensures.circuit c.in_ok-text.ensures.formula

pub returns-in_err-one-clause-refused : goal.returns-in_err-one-clause-refused
returns-in_err-one-clause-refused g c =
    first_passed c.args.first.now c.args.second.now _ c.in_err-one.field-0.0 c.from_residual.ensures.1
    c.in_err-one.ensures.refused

pub returns-in_err-other-clause-refused : goal.returns-in_err-other-clause-refused
returns-in_err-other-clause-refused g c =
    second_passed c.args.first.now c.args.second.now c.in_ok-one.one _ c.in_err-other.field-0.0
    c.from_residual-in_err-other.ensures.1 c.in_ok-one.ensures.circuit c.in_err-other.ensures.refused

pub returns-in_err-text-clause-refused : goal.returns-in_err-text-clause-refused
returns-in_err-text-clause-refused g c =
    other_passed c.args.first.now c.args.second.now c.in_ok-one.one c.in_ok-other.other _ c.in_err-text.field-0.0
    c.from_residual-in_err-text.ensures.1 c.in_ok-one.ensures.circuit c.in_ok-other.ensures.circuit
    c.in_err-text.ensures.refused
