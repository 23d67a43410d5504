-- The next stage keeps the header.
use Rattle.std.proofs.Common.{◌+◌}
use Rattle.cert_file.proofs.sections.at_between.Goals as goal

pub returns-clause-keeps_claim : goal.returns-clause-keeps_claim
returns-clause-keeps_claim c = λ ls all place kept. c.due.ensures.keeps_claim (c.args.line.now.number + 1) ls all kept
