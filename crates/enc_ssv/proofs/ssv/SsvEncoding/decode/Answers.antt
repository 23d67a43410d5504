use Rattle.std.proofs.Common.{◌≡◌, sym, subst, length}
use Rattle.chain_theory.specs.Chain.{Chain}
use Rattle.chain_theory.specs.Agreement.{IsOver, Agrees}
use Rattle.op_basis.specs.Basis.{members}
use Rattle.sat_theory.specs.Formula.{bits_of}
use Rattle.tt_core.specs.Words.{specification}
use Rattle.enc_ssv.specs.Spelled.{spelled}
use Rattle.enc_theory.specs.Subproblems.{FitsSubproblem}
use Rattle.enc_laws.specs.WholeLaws.{whole_fits}
use Rattle.enc_cuts.specs.ChainLaws.{if_ok}
use Rattle.enc_ssv.proofs.Chains.{ssv_is_for, ssv_is_small}
use Rattle.enc_ssv.proofs.ssv.SsvEncoding.decode.Goals as goal

pub decode_pairs-requires-clause-chain : goal.decode_pairs-requires-clause-chain
decode_pairs-requires-clause-chain c = ssv_is_small c.args.spec.now c.args.basis c.args.r c.swap_closed.result
    (bits_of c.args.assign.now) c.n-n.ensures.whole c.requires.size c.swap_closed.ensures c.requires.satisfied

pub returns-clause-size : goal.returns-clause-size
returns-clause-size c =
    let is = ssv_is_for c.args.spec.now c.args.basis c.args.r c.swap_closed.result (bits_of c.args.assign.now) c.swap_closed.ensures c.requires.satisfied in
    if_ok (λ (chain : Chain). chain ≡ spelled c.swap_closed.result c.args.spec.now c.args.r
    (bits_of c.args.assign.now)) (λ (chain : Chain). length chain.steps ≡ c.args.r) c.decode_pairs.result (λ chain e.
    rw e is.size) c.decode_pairs.ensures

pub returns-clause-over : goal.returns-clause-over
returns-clause-over c =
    let is = ssv_is_for c.args.spec.now c.args.basis c.args.r c.swap_closed.result (bits_of c.args.assign.now) c.swap_closed.ensures c.requires.satisfied in
    if_ok (λ (chain : Chain). chain ≡ spelled c.swap_closed.result c.args.spec.now c.args.r
    (bits_of c.args.assign.now)) (λ (chain : Chain). IsOver (members c.args.basis) chain) c.decode_pairs.result
    (λ chain e. subst (λ (d : Chain). IsOver (members c.args.basis) d) (sym e) is.is_over) c.decode_pairs.ensures

pub returns-clause-agrees : goal.returns-clause-agrees
returns-clause-agrees c =
    let is = ssv_is_for c.args.spec.now c.args.basis c.args.r c.swap_closed.result (bits_of c.args.assign.now) c.swap_closed.ensures c.requires.satisfied in
    if_ok (λ (chain : Chain). chain ≡ spelled c.swap_closed.result c.args.spec.now c.args.r
    (bits_of c.args.assign.now)) (λ (chain : Chain). Agrees chain (specification c.args.spec.now))
    c.decode_pairs.result (λ chain e. subst (λ (d : Chain). Agrees d (specification c.args.spec.now))
    (sym e) is.agrees) c.decode_pairs.ensures

pub returns-clause-fits : goal.returns-clause-fits
returns-clause-fits c = if_ok (λ (chain : Chain). chain ≡ spelled c.swap_closed.result c.args.spec.now c.args.r
    (bits_of c.args.assign.now)) (λ (chain : Chain). FitsSubproblem c.args._subproblem.now chain) c.decode_pairs.result
    (λ chain e. whole_fits c.args._subproblem.now chain c.requires.subproblem) c.decode_pairs.ensures
