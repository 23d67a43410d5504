use Rattle.lrat_text.proofs.Prefixes.{number_of_long}
use Rattle.lrat_text.proofs.numbers.next_number.Goals as goal

pub returns-in_default-clause-none : goal.returns-in_default-clause-none
returns-in_default-clause-none c = number_of_long c.args.limit c.in_ok-first.first.now c.args.text.now
    c.in_ok-first.others.now c.in_ok-first.ensures.cases.0 c.if-first-eq48.true (c.in_default.ensures.none c.args.limit)
