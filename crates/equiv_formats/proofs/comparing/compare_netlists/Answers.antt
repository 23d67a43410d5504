use Rattle.equiv_formats.specs.Comparison.{first_format}
use Rattle.equiv_formats.specs.SmallLaws.{small_circuit}
use Rattle.equiv_formats.specs.ComparisonLaws.{formats_answer, says_no_sink, first_passed, second_passed, sections_passed, other_passed}
use Rattle.equiv_formats.proofs.comparing.compare_netlists.Goals as goal

pub compare_named-requires-clause-small : goal.compare_named-requires-clause-small
compare_named-requires-clause-small g c =
    small_circuit c.args.formats.first _ c.in_ok-one.one c.requires.first c.in_ok-one.ensures.circuit

pub compare_named-requires-clause-other : goal.compare_named-requires-clause-other
compare_named-requires-clause-other g c =
    small_circuit c.args.formats.second _ c.in_ok-other.other c.requires.second c.in_ok-other.ensures.circuit

pub returns-clause-answer : goal.returns-clause-answer
returns-clause-answer g c =
    formats_answer c.args.formats c.args.conflicts c.args.first.now c.args.second.now c.in_ok-one.one c.in_ok-other.other _ _ _
    c.in_ok-one.ensures.circuit c.in_ok-other.ensures.circuit c.in_ok-check_sections.ensures.shared
    c.in_ok-named.ensures.reported

pub returns-clause-no_sink : goal.returns-clause-no_sink
returns-clause-no_sink g c =
    says_no_sink (first_format c.args.formats) c.args.first.now c.in_ok-one.one _ c.in_ok-one.ensures.circuit
    c.lacks_sinks-no_sink.ensures

pub returns-in_err-one-clause-refused : goal.returns-in_err-one-clause-refused
returns-in_err-one-clause-refused g c =
    first_passed c.args.formats c.args.first.now c.args.second.now _ c.in_err-one.field-0.0 c.from_residual.ensures.1
    c.in_err-one.ensures.refused

pub returns-in_err-other-clause-refused : goal.returns-in_err-other-clause-refused
returns-in_err-other-clause-refused g c =
    second_passed c.args.formats c.args.first.now c.args.second.now c.in_ok-one.one _ c.in_err-other.field-0.0
    c.from_residual-in_err-other.ensures.1 c.in_ok-one.ensures.circuit c.in_err-other.ensures.refused

pub returns-in_err-check_sections-clause-refused : goal.returns-in_err-check_sections-clause-refused
returns-in_err-check_sections-clause-refused g c =
    sections_passed c.args.formats c.args.first.now c.args.second.now c.in_ok-one.one c.in_ok-other.other _
    c.in_err-check_sections.field-0.0 c.from_residual-in_err-check_sections.ensures.1 c.in_ok-one.ensures.circuit
    c.in_ok-other.ensures.circuit c.in_err-check_sections.ensures.refused

pub returns-in_err-named-clause-refused : goal.returns-in_err-named-clause-refused
returns-in_err-named-clause-refused g c =
    other_passed c.args.formats c.args.first.now c.args.second.now c.in_ok-one.one c.in_ok-other.other _
    c.in_err-named.field-0.0 c.from_residual-in_err-named.ensures.1 c.in_ok-one.ensures.circuit
    c.in_ok-other.ensures.circuit c.in_err-named.ensures.refused
