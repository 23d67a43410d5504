use Rattle.std.proofs.Common.{◌≡◌, sym, subst, length}
use Rattle.chain_theory.specs.Chain.{Chain}
use Rattle.chain_theory.specs.Agreement.{IsOver, Agrees}
use Rattle.op_basis.specs.Basis.{members}
use Rattle.sat_theory.specs.Formula.{bits_of}
use Rattle.tt_core.specs.Words.{specification}
use Rattle.enc_theory.specs.Fence.{fence_decoded}
use Rattle.enc_laws.specs.Fence.{fence_decodes}
use Rattle.enc_laws.specs.FenceLaws.{spelled_fits}
use Rattle.enc_cuts.specs.ChainLaws.{if_ok}
use Rattle.enc_theory.specs.Subproblems.{fence_in, FitsSubproblem}
use Rattle.enc_fence.proofs.Formulas.{spelled_is_small}
use Rattle.enc_fence.proofs.encoding.FenceEncEncoding.decode.Goals as goal

pub decode_in-requires-clause-chain : goal.decode_in-requires-clause-chain
decode_in-requires-clause-chain c = spelled_is_small c.args.spec.now c.args.basis c.args.r
    (fence_in c.args.subproblem.now) (bits_of c.args.assign.now) c.n-n.ensures.whole c.requires.size
    c.requires.satisfied

pub returns-clause-size : goal.returns-clause-size
returns-clause-size c =
    let is = fence_decodes c.args.spec.now c.args.basis c.args.r (fence_in c.args.subproblem.now) (bits_of c.args.assign.now) c.requires.satisfied in
    if_ok (λ (chain : Chain). chain ≡ fence_decoded c.args.spec.now c.args.basis c.args.r
    (fence_in c.args.subproblem.now) (bits_of c.args.assign.now)) (λ (chain : Chain). length chain.steps ≡
    c.args.r) c.decode_in.result (λ chain e. rw e is.size) c.decode_in.ensures

pub returns-clause-over : goal.returns-clause-over
returns-clause-over c =
    let is = fence_decodes c.args.spec.now c.args.basis c.args.r (fence_in c.args.subproblem.now) (bits_of c.args.assign.now) c.requires.satisfied in
    if_ok (λ (chain : Chain). chain ≡ fence_decoded c.args.spec.now c.args.basis c.args.r
    (fence_in c.args.subproblem.now) (bits_of c.args.assign.now)) (λ (chain : Chain).
    IsOver (members c.args.basis) chain) c.decode_in.result (λ chain e.
    subst (λ (d : Chain). IsOver (members c.args.basis) d) (sym e) is.is_over) c.decode_in.ensures

pub returns-clause-agrees : goal.returns-clause-agrees
returns-clause-agrees c =
    let is = fence_decodes c.args.spec.now c.args.basis c.args.r (fence_in c.args.subproblem.now) (bits_of c.args.assign.now) c.requires.satisfied in
    if_ok (λ (chain : Chain). chain ≡ fence_decoded c.args.spec.now c.args.basis c.args.r
    (fence_in c.args.subproblem.now) (bits_of c.args.assign.now)) (λ (chain : Chain).
    Agrees chain (specification c.args.spec.now)) c.decode_in.result (λ chain e.
    subst (λ (d : Chain). Agrees d (specification c.args.spec.now)) (sym e) is.agrees) c.decode_in.ensures

pub returns-clause-fits : goal.returns-clause-fits
returns-clause-fits c =
    let fits = spelled_fits c.args.spec.now c.args.basis c.args.r c.args.subproblem.now (bits_of c.args.assign.now) c.requires.satisfied in
    if_ok (λ (chain : Chain). chain ≡ fence_decoded c.args.spec.now c.args.basis c.args.r
    (fence_in c.args.subproblem.now) (bits_of c.args.assign.now)) (λ (chain : Chain).
    FitsSubproblem c.args.subproblem.now chain) c.decode_in.result (λ chain e.
    subst (λ (d : Chain). FitsSubproblem c.args.subproblem.now d) (sym e) fits) c.decode_in.ensures
