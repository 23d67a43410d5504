-- The claim of the stage at the end of the text, or the fault of the last line.
use Rattle.text_core.specs.Lines.{lines_of}
use Rattle.cert_theory.specs.Judging.{certificate_of}
use Rattle.cert_file.proofs.Verdicts.{claim_given, operators_given}
use Rattle.cert_file.proofs.reader.claim_at_end.Goals as goal

pub returns-in-Ok-clause-exact : goal.returns-in-Ok-clause-exact
returns-in-Ok-clause-exact c = λ text stands. c.claim_of.ensures.answer (certificate_of (lines_of text)) (c.in-Ok.ensures.stands text stands).1.0

pub returns-in-Ok-clause-claim : goal.returns-in-Ok-clause-claim
returns-in-Ok-clause-claim c = λ text b stands is.
    let closed = c.in-Ok.ensures.stands text stands in
    claim_given text b c.claim_of.result is (c.claim_of.ensures.answer (certificate_of (lines_of text)) closed.1.0) (c.claim_of.ensures.keeps_claim (lines_of text) closed.0 closed.1.1)

pub returns-in-Ok-clause-operators : goal.returns-in-Ok-clause-operators
returns-in-Ok-clause-operators c = operators_given c.claim_of.result c.claim_of.ensures.known

pub returns-in-Err-clause-exact : goal.returns-in-Err-clause-exact
returns-in-Err-clause-exact c = λ text stands. c.in-Err.ensures.stands text stands
