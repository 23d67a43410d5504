use Rattle.lrat_text.proofs.Entries.{begins_byte}
use Rattle.lrat_text.proofs.numerals.begins_minus.Goals as goal

pub returns : goal.returns
returns c = begins_byte c.in-Some.first.now c.args.text.now c.in-Some.field-0-1.now c.in-Some.ensures.cases.0
