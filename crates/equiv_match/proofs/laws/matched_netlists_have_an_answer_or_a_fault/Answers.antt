use Rattle.equiv_match.specs.MatchComparisonLaws.{matched_apart, matched_one}
use Rattle.equiv_match.proofs.laws.matched_netlists_have_an_answer_or_a_fault.Goals as goal

pub returns-clause-apart : goal.returns-clause-apart
returns-clause-apart c = matched_apart

pub returns-clause-one : goal.returns-clause-one
returns-clause-one c = matched_one
