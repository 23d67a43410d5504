-- One more step.
use Rattle.std.proofs.Common.{◌≡◌, ◌+◌, ◌∙◌, ap, [], ◌∷◌, length, arith}
use Rattle.std.proofs.lemmas.List.{length-map, length-append}
use Rattle.chain_core.specs.Steps.{step_of, steps_of}
use Rattle.cert_theory.specs.Judging.{with_block}
use Rattle.cert_theory.specs.GivesLaws.{fails_is}
use Rattle.cert_file.proofs.Blocks.{step_fails, step_added, steps_full}
use Rattle.cert_file.proofs.Keeping.{block_goes}
use Rattle.cert_file.proofs.trailer.at_steps.Goals as goal

pub returns-in-Err-clause-answer : goal.returns-in-Err-clause-answer
returns-in-Err-clause-answer c = λ ls answer is.
    let r = c.args.lines in
    let count : length (steps_of r.steps.items) ≡ length r.steps.items = length-map r.steps.items step_of in
    fails_is c.refusal.result _ answer is
    (step_fails r.header r.frame r.low (steps_of r.steps.items) c.len.result _ ls c.in-Err.error c.refusal.result
    (omega (arith, count, c.len.ensures)) (omega (arith, count, c.requires.read.due)) c.in-Err.ensures.exact c.refusal.ensures)

pub returns-then-len-lines-clause-answer : goal.returns-then-len-lines-clause-answer
returns-then-len-lines-clause-answer c = λ ls answer is.
    let r = c.args.lines in
    is
    ∙ ap (with_block r.header r.frame r.low) (step_added r.frame r.steps.items c.add_step.new.steps.items c.len.result _ ls
    c.in-Ok.step (omega (arith, c.len.ensures)) c.requires.read.due c.in-Ok.ensures.exact c.in_ok-add_step.ensures.added)

pub returns-clause-answer : goal.returns-clause-answer
returns-clause-answer c = λ ls answer is.
    let r = c.args.lines in
    let more : length c.add_step.new.steps.items ≡ length r.steps.items + 1 = ap length c.in_ok-add_step.ensures.added ∙ length-append r.steps.items (c.in-Ok.step ∷ []) in
    let full : length c.add_step.new.steps.items ≡ r.frame.steps = omega (arith, more, c.requires.read.due, c.len-2.ensures, c.if-len-lines.false) in
    is
    ∙ ap (with_block r.header r.frame r.low) (step_added r.frame r.steps.items c.add_step.new.steps.items c.len.result _ ls
    c.in-Ok.step (omega (arith, c.len.ensures)) c.requires.read.due c.in-Ok.ensures.exact c.in_ok-add_step.ensures.added
    ∙ steps_full r.frame c.add_step.new.steps.items r.outs.items ls full c.requires.read.none)

pub returns-then-len-lines-clause-keeps_claim : goal.returns-then-len-lines-clause-keeps_claim
returns-then-len-lines-clause-keeps_claim c = λ ls all kept block.
    let r = c.args.lines in (
      kept,
      block_goes r.frame all _ _
          (step_added r.frame r.steps.items c.add_step.new.steps.items c.len.result _ ls
          c.in-Ok.step (omega (arith, c.len.ensures)) c.requires.read.due c.in-Ok.ensures.exact c.in_ok-add_step.ensures.added) block,
    )

pub returns-clause-keeps_claim : goal.returns-clause-keeps_claim
returns-clause-keeps_claim c = λ ls all kept block.
    let r = c.args.lines in
    let more : length c.add_step.new.steps.items ≡ length r.steps.items + 1 = ap length c.in_ok-add_step.ensures.added ∙ length-append r.steps.items (c.in-Ok.step ∷ []) in
    let full : length c.add_step.new.steps.items ≡ r.frame.steps = omega (arith, more, c.requires.read.due, c.len-2.ensures, c.if-len-lines.false) in (
      kept,
      block_goes r.frame all _ _
          (step_added r.frame r.steps.items c.add_step.new.steps.items c.len.result _ ls
          c.in-Ok.step (omega (arith, c.len.ensures)) c.requires.read.due c.in-Ok.ensures.exact c.in_ok-add_step.ensures.added
          ∙ steps_full r.frame c.add_step.new.steps.items r.outs.items ls full c.requires.read.none) block,
    )
