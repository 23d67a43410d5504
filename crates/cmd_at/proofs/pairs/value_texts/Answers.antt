use Rattle.cmd_at.proofs.Finding.{valued_found, first_passed, second_passed, sections_passed, other_passed}
use Rattle.cmd_at.proofs.pairs.value_texts.Goals as goal

pub returns-clause-valued : goal.returns-clause-valued
returns-clause-valued c =
    valued_found c.args.formats c.args.bits.now c.args.first.now c.args.second.now c.in_ok-one.one c.in_ok-other.other
    c.in_ok-valued.valued c.in_ok-one.ensures.circuit c.in_ok-other.ensures.circuit c.in_ok-check_sections.ensures.shared
    c.in_ok-valued.ensures.valued

pub returns-in_err-one-clause-refused : goal.returns-in_err-one-clause-refused
returns-in_err-one-clause-refused c =
    first_passed c.args.formats c.args.first.now c.args.second.now _ c.in_err-one.field-0.0 c.from_residual.ensures.1
    c.in_err-one.ensures.refused

pub returns-in_err-other-clause-refused : goal.returns-in_err-other-clause-refused
returns-in_err-other-clause-refused c =
    second_passed c.args.formats c.args.first.now c.args.second.now c.in_ok-one.one _ c.in_err-other.field-0.0
    c.from_residual-in_err-other.ensures.1 c.in_ok-one.ensures.circuit c.in_err-other.ensures.refused

pub returns-in_err-check_sections-clause-refused : goal.returns-in_err-check_sections-clause-refused
returns-in_err-check_sections-clause-refused c =
    sections_passed c.args.formats c.args.first.now c.args.second.now c.in_ok-one.one c.in_ok-other.other _
    c.in_err-check_sections.field-0.0 c.from_residual-in_err-check_sections.ensures.1 c.in_ok-one.ensures.circuit
    c.in_ok-other.ensures.circuit c.in_err-check_sections.ensures.refused

pub returns-in_err-valued-clause-refused : goal.returns-in_err-valued-clause-refused
returns-in_err-valued-clause-refused c =
    other_passed c.args.formats c.args.first.now c.args.second.now c.in_ok-one.one c.in_ok-other.other _
    c.in_err-valued.field-0.0 c.from_residual-in_err-valued.ensures.1 c.in_ok-one.ensures.circuit
    c.in_ok-other.ensures.circuit c.in_err-valued.ensures.refused
