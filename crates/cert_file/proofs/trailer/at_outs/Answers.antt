-- One more output.
use Rattle.std.proofs.Common.{◌≡◌, ◌+◌, ◌∙◌, ap, sym, subst, length, All, ℕ, arith}
use Rattle.std.proofs.lemmas.List.Elements.{All-push}
use Rattle.std.proofs.lemmas.List.{length-map}
use Rattle.chain_theory.specs.Chain.{Chain, NamesPlace}
use Rattle.chain_core.specs.Steps.{step_of, steps_of}
use Rattle.cert_theory.specs.Judging.{with_block, chain_judged, after_chain}
use Rattle.cert_theory.specs.Gives.{Fails}
use Rattle.cert_theory.specs.GivesLaws.{fails_is}
use Rattle.cert_file.proofs.Blocks.{out_fails, out_added}
use Rattle.cert_file.proofs.Chains.{end_fails, end_goes}
use Rattle.cert_file.proofs.Exits.{judged_err}
use Rattle.cert_file.proofs.Keeping.{block_goes, block_held}
use Rattle.cert_file.proofs.trailer.at_outs.Goals as goal

pub returns-in-Err-clause-answer : goal.returns-in-Err-clause-answer
returns-in-Err-clause-answer c = λ ls answer is.
    let r = c.args.lines in
    fails_is c.refusal.result _ answer is
    (out_fails r.header r.frame r.low (steps_of r.steps.items) r.outs.items c.len.result _ ls c.in-Err.error
    c.refusal.result (omega arith) c.requires.read.due c.in-Err.ensures.exact c.refusal.ensures)

pub returns-then-len-lines-clause-answer : goal.returns-then-len-lines-clause-answer
returns-then-len-lines-clause-answer c = λ ls answer is.
    let r = c.args.lines in
    is
    ∙ ap (with_block r.header r.frame r.low) (out_added r.frame (steps_of r.steps.items) r.outs.items c.push.new.self.items
    c.len.result _ ls c.in-Ok.out (omega arith) c.requires.read.due c.in-Ok.ensures.exact c.in_ok-push.ensures.items)

pub new-chain-requires : goal.new-chain-requires
new-chain-requires c =
    let r = c.args.lines in
    let count = length-map r.steps.items step_of in
    let steps : r.frame.steps ≡ length (steps_of r.steps.items) = omega (arith, count) in
    let named : All (NamesPlace (r.frame.n + r.frame.steps)) c.push.new.self.items =
    rw c.in_ok-push.ensures.items (All-push (NamesPlace (r.frame.n + r.frame.steps)) r.outs.items
    c.in-Ok.out c.requires.read.named c.in-Ok.ensures.named) in
    record {
      chain = record {
        steps = c.requires.read.steps_are;
        outs = subst (λ (n : ℕ). All (NamesPlace (r.frame.n + n)) c.push.new.self.items) steps named;
      };
      inputs = omega arith;
      steps = omega (arith, count);
      outs = omega arith;
    }

pub returns-in_err-chain_judged-clause-answer : goal.returns-in_err-chain_judged-clause-answer
returns-in_err-chain_judged-clause-answer c = λ ls answer is.
    let r = c.args.lines in
    let e = c.in_err-chain_judged.field-0.0 in
    let full : length c.push.new.self.items ≡ r.frame.outputs = omega arith in
    judged_err c.from_residual-in_err-chain_judged.result e _ ls answer c.from_residual-in_err-chain_judged.ensures.1
    (fails_is e _ answer
    (is
    ∙ ap (with_block r.header r.frame r.low) (out_added r.frame (steps_of r.steps.items) r.outs.items c.push.new.self.items
    c.len.result _ ls c.in-Ok.out (omega arith) c.requires.read.due c.in-Ok.ensures.exact c.in_ok-push.ensures.items))
    (end_fails r.header r.frame r.low (steps_of r.steps.items) c.push.new.self.items ls e full
    (subst (λ (chain : Chain). Fails e (chain_judged r.header chain)) c.new-chain.ensures c.in_err-chain_judged.ensures)))

pub returns-clause-answer : goal.returns-clause-answer
returns-clause-answer c = λ ls answer is.
    let r = c.args.lines in
    let full : length c.push.new.self.items ≡ r.frame.outputs = omega arith in
    let next : r.frame.first_line + 1 + r.frame.steps + r.frame.outputs ≡ c.args.line.now.number + 1 = omega arith in
    let count = length-map r.steps.items step_of in
    let own : length c.new-chain.result.steps ≡ length (steps_of r.steps.items) = ap (λ (chain : Chain). length chain.steps) c.new-chain.ensures in
    let size : r.frame.steps ≡ length c.new-chain.result.steps = omega (arith, count, own) in
    is
    ∙ ap (with_block r.header r.frame r.low) (out_added r.frame (steps_of r.steps.items) r.outs.items c.push.new.self.items
    c.len.result _ ls c.in-Ok.out (omega arith) c.requires.read.due c.in-Ok.ensures.exact c.in_ok-push.ensures.items)
    ∙ end_goes r.header r.frame r.low (steps_of r.steps.items) c.push.new.self.items ls full
    (ap (chain_judged r.header) (sym c.new-chain.ensures) ∙ c.in_ok-chain_judged.ensures)
    ∙ ap (λ (n : ℕ). after_chain n r.frame.steps r.low ls) next
    ∙ ap (λ (size : ℕ). after_chain (c.args.line.now.number + 1) size r.low ls) size

pub returns-then-len-lines-clause-keeps_claim : goal.returns-then-len-lines-clause-keeps_claim
returns-then-len-lines-clause-keeps_claim c = λ ls all kept block.
    let r = c.args.lines in (
      kept,
      block_goes r.frame all _ _
          (out_added r.frame (steps_of r.steps.items) r.outs.items c.push.new.self.items
          c.len.result _ ls c.in-Ok.out (omega arith) c.requires.read.due c.in-Ok.ensures.exact c.in_ok-push.ensures.items) block,
    )

pub returns-clause-keeps_claim : goal.returns-clause-keeps_claim
returns-clause-keeps_claim c = λ ls all kept block.
    let r = c.args.lines in
    let full : length c.push.new.self.items ≡ r.frame.outputs = omega arith in
    let count = length-map r.steps.items step_of in (
      kept,
      block_held r.header r.frame all ls (steps_of r.steps.items) c.push.new.self.items (c.args.line.now.number + 1)
          c.new-chain.result c.requires.read.frame (omega (arith, count)) full (omega arith) c.new-chain.ensures
          (block_goes r.frame all _ _
          (out_added r.frame (steps_of r.steps.items) r.outs.items c.push.new.self.items
          c.len.result _ ls c.in-Ok.out (omega arith) c.requires.read.due c.in-Ok.ensures.exact c.in_ok-push.ensures.items) block),
    )
