use Rattle.equiv_formats.specs.Comparison.{first_format}
use Rattle.equiv_formats.specs.SmallLaws.{small_circuit}
use Rattle.equiv_formats.specs.ComparisonLaws.{says_no_sink}
use Rattle.equiv_match.specs.MatchComparisonLaws.{ready, ordered_proper, ordered_small, matched_answer, first_passed, unchecked_passed, uncompared_passed}
use Rattle.equiv_match.proofs.comparing.compare_matched.Goals as goal

pub ordered_circuit-requires-clause-ready : goal.ordered_circuit-requires-clause-ready
ordered_circuit-requires-clause-ready g c =
    ready c.args.formats c.args.first.now c.args.second.now c.in_ok-one.one c.requires.first c.in_ok-one.ensures.circuit
    c.in_ok-check_second.ensures.checked

pub compare_ordered-requires-clause-second : goal.compare_ordered-requires-clause-second
compare_ordered-requires-clause-second g c =
    ordered_proper c.args.formats c.args.first.now c.args.second.now c.in_ok-one.one c.in_ok-other.other
    c.in_ok-one.ensures.circuit c.in_ok-check_second.ensures.checked c.in_ok-other.ensures

pub compare_ordered-requires-clause-small : goal.compare_ordered-requires-clause-small
compare_ordered-requires-clause-small g c =
    small_circuit c.args.formats.first _ c.in_ok-one.one c.requires.first c.in_ok-one.ensures.circuit

pub compare_ordered-requires-clause-other : goal.compare_ordered-requires-clause-other
compare_ordered-requires-clause-other g c =
    ordered_small c.args.formats c.args.first.now c.args.second.now c.in_ok-one.one c.in_ok-other.other c.requires.first
    c.in_ok-one.ensures.circuit c.in_ok-check_second.ensures.checked c.in_ok-other.ensures

pub returns-clause-answer : goal.returns-clause-answer
returns-clause-answer g c =
    matched_answer c.args.formats c.args.conflicts c.args.first.now c.args.second.now c.in_ok-one.one c.in_ok-other.other _ _ _
    c.in_ok-one.ensures.circuit c.in_ok-check_second.ensures.checked c.in_ok-other.ensures c.in_ok-named.ensures.reported

pub returns-clause-no_sink : goal.returns-clause-no_sink
returns-clause-no_sink g c =
    says_no_sink (first_format c.args.formats) c.args.first.now c.in_ok-one.one _ c.in_ok-one.ensures.circuit
    c.lacks_sinks-no_sink.ensures

pub returns-in_err-one-clause-refused : goal.returns-in_err-one-clause-refused
returns-in_err-one-clause-refused g c =
    first_passed c.args.formats c.args.first.now c.args.second.now _ c.in_err-one.field-0.0 c.from_residual.ensures.1
    c.in_err-one.ensures.refused

pub returns-in_err-check_second-clause-refused : goal.returns-in_err-check_second-clause-refused
returns-in_err-check_second-clause-refused g c =
    unchecked_passed c.args.formats c.args.first.now c.args.second.now c.in_ok-one.one _ c.in_err-check_second.field-0.0
    c.from_residual-in_err-check_second.ensures.1 c.in_ok-one.ensures.circuit c.in_err-check_second.ensures.refused

pub returns-in_err-named-clause-refused : goal.returns-in_err-named-clause-refused
returns-in_err-named-clause-refused g c =
    uncompared_passed c.args.formats c.args.first.now c.args.second.now c.in_ok-one.one c.in_ok-other.other _
    c.in_err-named.field-0.0 c.from_residual-in_err-named.ensures.1 c.in_ok-one.ensures.circuit
    c.in_ok-check_second.ensures.checked c.in_ok-other.ensures c.in_err-named.ensures.refused
