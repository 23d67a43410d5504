-- The verdict of the claim, or the same fault.
use Rattle.cert_file.proofs.Exits.{verdict_err}
use Rattle.cert_file.proofs.stepping.verdict_of.Goals as goal

pub returns-in_err-claim : goal.returns-in_err-claim
returns-in_err-claim c = λ answer stands.
    verdict_err c.from_residual.result c.in_err-claim.field-0.0 answer c.from_residual.ensures.1 (c.in_err-claim.ensures.answer answer stands)

pub returns : goal.returns
returns c = λ answer stands. c.in_ok-claim.ensures.answer answer stands
