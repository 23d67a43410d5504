-- The reader represents the bytes, or they are refused.
use Rattle.std.proofs.Common.{List, ℕ, [], subst, append-nil}
use Rattle.text_core.specs.Lines.{lines_of}
use Rattle.cert_theory.specs.Gives.{Fails}
use Rattle.cert_theory.specs.Judging.{certificate_of}
use Rattle.cmd_formula.proofs.claims.read.Goals as goal

pub returns-in-Ok-clause-exact : goal.returns-in-Ok-clause-exact
returns-in-Ok-clause-exact c = c.claim_at_end.ensures.exact c.args.bytes.now (c.in-Ok.ensures.read [] c.new.ensures.stands)

pub returns-in-Ok-clause-claim : goal.returns-in-Ok-clause-claim
returns-in-Ok-clause-claim c = λ b is. c.claim_at_end.ensures.claim c.args.bytes.now b (c.in-Ok.ensures.read [] c.new.ensures.stands) is

pub returns-in-Err-clause-exact : goal.returns-in-Err-clause-exact
returns-in-Err-clause-exact c =
    subst (λ (text : List ℕ). Fails c.in-Err.error (certificate_of (lines_of text))) (append-nil c.args.bytes.now)
    (c.in-Err.ensures.read [] c.new.ensures.stands [])
