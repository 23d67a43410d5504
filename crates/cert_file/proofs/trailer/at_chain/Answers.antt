-- The chain begins without a step.
use Rattle.std.proofs.Common.{◌∙◌, ap, sym, List, [], length}
use Rattle.chain_core.specs.declared.frame.Frame.{Frame}
use Rattle.chain_core.specs.declared.step.Step.{Step}
use Rattle.chain_core.specs.Steps.{steps_of}
use Rattle.chain_core.specs.Block.{steps_from}
use Rattle.cert_theory.specs.Judging.{with_block}
use Rattle.cert_file.specs.Stages.{steps_then}
use Rattle.cert_file.proofs.Blocks.{frame_is, steps_full}
use Rattle.cert_file.proofs.Chains.{chain_goes}
use Rattle.cert_file.proofs.Keeping.{block_begins, block_goes}
use Rattle.cert_file.proofs.trailer.at_chain.Goals as goal

pub returns-then-steps-eq0-clause-answer : goal.returns-then-steps-eq0-clause-answer
returns-then-steps-eq0-clause-answer c = λ ls answer is.
    let h = c.args.next.header in
    let low = c.args.next.low in
    let f : Frame = record { first_line = c.args.line.now.number; n = c.n.result; outputs = c.outputs.result; steps = c.in_ok-steps.steps } in
    is
    ∙ chain_goes h c.args.line.now.number c.args.next.size low _ ls c.in_ok-steps.steps c.in_ok-steps.ensures.exact
    ∙ ap (λ (g : Frame). with_block h g low (steps_then g (steps_from g [] ls)))
    (frame_is h c.args.line.now.number c.in_ok-steps.steps c.n.result c.outputs.result c.n.ensures.value c.outputs.ensures)
    ∙ ap (with_block h f low) (ap (λ (ss : List Step). steps_then f (steps_from f (steps_of ss) ls)) (sym c.new.ensures.items)
    ∙ steps_full f c.new.result.items c.new-2.result.items ls (ap length c.new.ensures.items ∙ sym c.if-steps-eq0.true) c.new-2.ensures.items)

pub returns-clause-answer : goal.returns-clause-answer
returns-clause-answer c = λ ls answer is.
    let h = c.args.next.header in
    let low = c.args.next.low in
    let f : Frame = record { first_line = c.args.line.now.number; n = c.n.result; outputs = c.outputs.result; steps = c.in_ok-steps.steps } in
    is
    ∙ chain_goes h c.args.line.now.number c.args.next.size low _ ls c.in_ok-steps.steps c.in_ok-steps.ensures.exact
    ∙ ap (λ (g : Frame). with_block h g low (steps_then g (steps_from g [] ls)))
    (frame_is h c.args.line.now.number c.in_ok-steps.steps c.n.result c.outputs.result c.n.ensures.value c.outputs.ensures)
    ∙ ap (with_block h f low) (ap (λ (ss : List Step). steps_then f (steps_from f (steps_of ss) ls)) (sym c.new.ensures.items))

pub returns-then-steps-eq0-clause-keeps_claim : goal.returns-then-steps-eq0-clause-keeps_claim
returns-then-steps-eq0-clause-keeps_claim c = λ ls all place kept.
    let f : Frame = record { first_line = c.args.line.now.number; n = c.n.result; outputs = c.outputs.result; steps = c.in_ok-steps.steps } in (
      kept,
      block_goes f all _ _
          (ap (λ (ss : List Step). steps_then f (steps_from f (steps_of ss) ls)) (sym c.new.ensures.items)
          ∙ steps_full f c.new.result.items c.new-2.result.items ls (ap length c.new.ensures.items ∙ sym c.if-steps-eq0.true) c.new-2.ensures.items)
          (block_begins f all _ ls place c.in_ok-steps.ensures.count),
    )

pub returns-clause-keeps_claim : goal.returns-clause-keeps_claim
returns-clause-keeps_claim c = λ ls all place kept.
    let f : Frame = record { first_line = c.args.line.now.number; n = c.n.result; outputs = c.outputs.result; steps = c.in_ok-steps.steps } in (
      kept,
      block_goes f all _ _
          (ap (λ (ss : List Step). steps_then f (steps_from f (steps_of ss) ls)) (sym c.new.ensures.items))
          (block_begins f all _ ls place c.in_ok-steps.ensures.count),
    )
