-- The name of a fence, or the verdict.
use Rattle.std.proofs.Common.{◌≤◌, sym, ap, ◌∙◌, subst, arith, length}
use Rattle.line_reader.specs.TextLines.{line_of}
use Rattle.depth_theory.specs.declared.data.DepthVerdict.{DepthVerdict}
use Rattle.depth_theory.specs.DepthGives.{Fails}
use Rattle.depth_theory.specs.DepthJudging.{verdict_at, Due}
use Rattle.depth_file.specs.Stages.{due_of}
use Rattle.depth_file.proofs.Going.{flat, due_begins, due_fails, end_goes, end_fails, fails_is, judged_err, none_due}
use Rattle.depth_file.proofs.stepping.at_due.Goals as goal

pub returns-in_err-name_at-clause-answer : goal.returns-in_err-name_at-clause-answer
returns-in_err-name_at-clause-answer c = λ lines ls answer is same.
    let f = c.args.flat in
    let n = c.args.line.now.number in
    let e = c.in_err-name_at.field-0.0 in
    judged_err c.from_residual.result e _ ls answer c.from_residual.ensures.1
    (fails_is e _ answer (is ∙ ap (flat f n (Due (due_of f))) same)
    (due_fails f c.fence_of.result.now n (line_of c.args.line.now) ls e c.fence_of.ensures.next c.in_err-name_at.ensures))

pub returns-then-flat-len-clause-answer : goal.returns-then-flat-len-clause-answer
returns-then-flat-len-clause-answer c = due_begins c.args.flat c.fence_of.result.now c.args.line.now.number (line_of c.args.line.now) tt c.fence_of.ensures.next c.in_ok-name_at.ensures

pub returns-in_err-verdict-clause-answer : goal.returns-in_err-verdict-clause-answer
returns-in_err-verdict-clause-answer c = λ lines ls answer is same.
    let f = c.args.flat in
    let n = c.args.line.now.number in
    let l = line_of c.args.line.now in
    let e = c.in_err-verdict.field-0.0 in
    let last : length f.fences.items ≤ f.at = omega arith in
    judged_err c.from_residual-in_err-verdict.result e _ ls answer c.from_residual-in_err-verdict.ensures.1
    (fails_is e _ answer (is ∙ ap (flat f n (Due (due_of f))) same)
    (end_fails f n l ls e (none_due f c.requires last) (subst (λ (v : DepthVerdict). Fails e (verdict_at n v l)) c.found.ensures c.in_err-verdict.ensures)))

pub returns-clause-answer : goal.returns-clause-answer
returns-clause-answer c = λ lines ls answer is same.
    let f = c.args.flat in
    let n = c.args.line.now.number in
    let l = line_of c.args.line.now in
    let last : length f.fences.items ≤ f.at = omega arith in
    is
    ∙ ap (flat f n (Due (due_of f))) same
    ∙ end_goes f n l ls c.in_ok-verdict.verdict (none_due f c.requires last) (ap (λ (v : DepthVerdict). verdict_at n v l) (sym c.found.ensures) ∙ c.in_ok-verdict.ensures)
