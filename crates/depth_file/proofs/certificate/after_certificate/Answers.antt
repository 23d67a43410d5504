-- What the reader of the certificate returns decides what comes after it.
use Rattle.std.proofs.Common.{◌≡◌, ◌∙◌, List, length, ap, sym, subst}
use Rattle.std.proofs.lemmas.List.{length-map}
use Rattle.chain_theory.specs.Chain as chains
use Rattle.chain_core.specs.Steps.{step_of}
use Rattle.depth_theory.specs.declared.data.DepthError.{DepthError}
use Rattle.depth_theory.specs.DepthGives.{Fails}
use Rattle.depth_theory.specs.DepthJudging.{after_chain}
use Rattle.depth_file.proofs.After.{after_fails, WasRead, not_least, is_least, least_none_by, least_other, least_nothing, least_some}
use Rattle.depth_file.proofs.certificate.after_certificate.Goals as goal

pub returns-in-Err-clause-answer : goal.returns-in-Err-clause-answer
returns-in-Err-clause-answer c = λ number ls answer is.
    subst (λ (d : DepthError). Fails d answer) (sym c.fault_of.ensures) (after_fails c.args.reader number ls answer c.in-Err.error is c.in-Err.ensures.exact)

pub returns-in_default : goal.returns-in_default
returns-in_default c =
    let t = c.in-Ok.claim in
    let claim : WasRead c.args.reader t = record { exact = c.in-Ok.ensures.exact; claim = c.in-Ok.ensures.claim } in
    record {
      keeps = tt;
      following = tt;
      answer = λ number ls answer is. not_least c.args.reader t number ls answer claim
          (least_none_by t.header.method t.verdict t.chain c.in_default.not-Minimum) is;
    }

pub returns-in_default-method : goal.returns-in_default-method
returns-in_default-method c =
    let t = c.in-Ok.claim in
    let claim : WasRead c.args.reader t = record { exact = c.in-Ok.ensures.exact; claim = c.in-Ok.ensures.claim } in
    record {
      keeps = tt;
      following = tt;
      answer = λ number ls answer is. not_least c.args.reader t number ls answer claim
          (least_other t.header.method t.verdict t.chain c.in_default-method.not-Fence) is;
    }

pub returns-in_default-chain-clause-answer : goal.returns-in_default-chain-clause-answer
returns-in_default-chain-clause-answer c = λ number ls answer is.
    let t = c.in-Ok.claim in
    let claim : WasRead c.args.reader t = record { exact = c.in-Ok.ensures.exact; claim = c.in-Ok.ensures.claim } in
    not_least c.args.reader t number ls answer claim (least_nothing t.header.method t.verdict t.chain c.in_default-chain.is) is

pub returns-clause-answer : goal.returns-clause-answer
returns-clause-answer c = λ number ls answer is.
    let t = c.in-Ok.claim in
    let claim : WasRead c.args.reader t = record { exact = c.in-Ok.ensures.exact; claim = c.in-Ok.ensures.claim } in
    let own = least_some t.header.method t.verdict t.chain c.in-Minimum.field-0 c.in-Some.chain c.in-Fence.is c.in-Minimum.is c.in-Some.is in
    let size : length c.in-Some.chain.steps ≡ length c.steps.result.now = ap (λ (ss : List chains.Step). length ss) (sym c.steps.ensures.steps) ∙ length-map c.steps.result.now step_of in
    is_least c.args.reader t c.in-Some.chain number ls answer claim own is
    ∙ (λ i. after_chain t.header (size i) (sym c.in_ok-levels.ensures i) number ls)
