use Rattle.lrat_check.proofs.Entries.{empty_view, empty_indexed}
use Rattle.lrat_check.proofs.clauses.Clauses.new.Goals as goal

pub returns : goal.returns
returns c = empty_view c.in_ok-with_capacity.field-0 c.in_ok-with_capacity.ensures.empty

pub invariant_of-result : goal.invariant_of-result
invariant_of-result c = empty_indexed c.in_ok-with_capacity.field-0 c.args.index c.in_ok-with_capacity.ensures.empty
