-- A line of a log, or its end.
use Rattle.std.proofs.Common.{◌≡◌, [], ◌∷◌, ◌++◌, length, Some, None, Ok, sym, ap, ◌∙◌, subst, ◌+◌}
use Rattle.enc_theory.specs.declared.subproblem.Subproblem.TheVariants.{Levels}
use Rattle.cert_theory.specs.declared.data.LogEnd.{LogEnd}
use Rattle.cert_theory.specs.Certificate.{formula_of}
use Rattle.cert_theory.specs.SubproblemLines.{subproblem_in}
use Rattle.cert_theory.specs.Judging.{low_with}
use Rattle.cert_file.specs.Logged.{IsFed, HasMore}
use Rattle.line_reader.specs.TextLines.{line_of}
use Rattle.cert_file.specs.declared.subproblem.SubproblemStep.{SubproblemStep}
use Rattle.depth_theory.specs.declared.data.DepthError.{DepthError}
use Rattle.depth_theory.specs.DepthGives.{Fails}
use Rattle.depth_theory.specs.DepthJudging.{fault_at, Within, Due, flat_from}
use Rattle.depth_file.specs.Stages.{later_of}
use Rattle.depth_file.proofs.Going.{flat, subproblem_fails, subproblem_goes, fails_is}
use Rattle.depth_file.proofs.stepping.at_within.Goals as goal

pub returns-in-Ok-More-clause-answer : goal.returns-in-Ok-More-clause-answer
returns-in-Ok-More-clause-answer c = λ lines ls answer stands same.
    let f = c.args.flat in
    let n = c.args.line.now.number in
    let end = c.args.reader.ended in
    let g = formula_of f.chain.header f.chain.size (Levels stands.fence) in
    let more : HasMore g f.chain.header.conflicts end stands.log (line_of c.args.line.now) c.in-Ok-More.reader =
    subst (λ (step : SubproblemStep). IsFed g f.chain.header.conflicts end stands.log (line_of c.args.line.now) (Ok step))
    c.in-Ok-More.field-0-is (c.in-Ok-More.ensures g f.chain.header.conflicts stands.log stands.reading) in
    record {
      fence = stands.fence;
      is_next = stands.is_next;
      log = stands.log ++ more.line ∷ [];
      reading = more.reading;
      answer_is =
          stands.answer_is
          ∙ ap (flat f n (Within stands.fence (later_of f) end stands.log)) same
          ∙ subproblem_goes f stands.fence (later_of f) n end stands.log _ ls (Some more.line) more.read
          ∙ ap (λ (e : LogEnd). flat f (n + 1) (Within stands.fence (later_of f) e (stands.log ++ more.line ∷ [])) ls) (sym more.same_end);
    }

pub returns-in-Ok-Done-clause-answer : goal.returns-in-Ok-Done-clause-answer
returns-in-Ok-Done-clause-answer c = λ lines ls answer stands same.
    let f = c.args.flat in
    let n = c.args.line.now.number in
    let end = c.args.reader.ended in
    let g = formula_of f.chain.header f.chain.size (Levels stands.fence) in
    let done : subproblem_in g f.chain.header.conflicts end stands.log (line_of c.args.line.now) ≡ Ok None =
    subst (λ (step : SubproblemStep). IsFed g f.chain.header.conflicts end stands.log (line_of c.args.line.now) (Ok step))
    c.in-Ok-Done.field-0-is (c.in-Ok-Done.ensures g f.chain.header.conflicts stands.log stands.reading) in
    c.following.ensures.stands (n + 1) stands.fence ls answer stands.is_next
    (stands.answer_is
    ∙ ap (flat f n (Within stands.fence (later_of f) end stands.log)) same
    ∙ subproblem_goes f stands.fence (later_of f) n end stands.log _ ls None done
    ∙ ap (λ (e : LogEnd). flat_from f.chain.header f.chain.size f.chain.levels (n + 1) (low_with f.low e (length stands.fence)) (Due (later_of f)) ls) (sym c.ended-end.ensures))

pub returns-in-Err-clause-answer : goal.returns-in-Err-clause-answer
returns-in-Err-clause-answer c = λ lines ls answer stands same.
    let f = c.args.flat in
    let n = c.args.line.now.number in
    let end = c.args.reader.ended in
    let e = c.in-Err.fault in
    subst (λ (d : DepthError). Fails d answer) (sym c.fault_at.ensures)
    (fails_is (fault_at n e) _ answer (stands.answer_is ∙ ap (flat f n (Within stands.fence (later_of f) end stands.log)) same)
    (subproblem_fails f stands.fence (later_of f) n end stands.log _ ls e (c.in-Err.ensures (formula_of f.chain.header f.chain.size (Levels stands.fence)) f.chain.header.conflicts stands.log stands.reading)))
