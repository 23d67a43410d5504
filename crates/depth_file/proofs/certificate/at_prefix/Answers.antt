-- A line of the certificate is at fault, ends it, or is within it.
use Rattle.std.proofs.Common.{◌∙◌, ◌+◌, sym, subst}
use Rattle.cert_theory.specs.Spelling.{text_of}
use Rattle.line_reader.specs.TextLines.{line_of}
use Rattle.depth_theory.specs.declared.data.DepthError.{DepthError}
use Rattle.depth_theory.specs.DepthGives.{Fails}
use Rattle.depth_file.proofs.After.{prefix_fails, prefix_goes, prefix_ends}
use Rattle.depth_file.proofs.certificate.at_prefix.Goals as goal

pub returns-in-Err-clause-answer : goal.returns-in-Err-clause-answer
returns-in-Err-clause-answer c = λ lines ls answer free is same.
    subst (λ (d : DepthError). Fails d answer) (sym c.fault_of.ensures)
    (prefix_fails c.args.reader c.args.line.now.number lines ls (line_of c.args.line.now) answer c.in-Err.error is same (c.in-Err.ensures.read (text_of is.read) free is.stands))

pub returns-then-is_line-clause-answer : goal.returns-then-is_line-clause-answer
returns-then-is_line-clause-answer c = λ lines ls answer free is same.
    c.after_certificate.ensures.answer (c.args.line.now.number + 1) ls answer
    (prefix_ends c.args.reader c.in-Ok.reader c.args.line.now.number lines ls (line_of c.args.line.now) answer is same
    (sym c.is_line.ensures ∙ c.if-is_line.true) (c.in-Ok.ensures.read (text_of is.read) free is.stands))

pub returns-clause-answer : goal.returns-clause-answer
returns-clause-answer c = λ lines ls answer free is same.
    prefix_goes c.args.reader c.in-Ok.reader c.args.line.now.number lines ls c.args.line.now.text.now
    c.args.line.now.ended answer is same (sym c.is_line.ensures
    ∙ c.if-is_line.false) (c.in-Ok.ensures.read (text_of is.read) free is.stands)
