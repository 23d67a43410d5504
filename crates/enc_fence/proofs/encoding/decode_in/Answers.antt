use Rattle.std.proofs.Common.{ap, ◌∙◌}
use Rattle.tt_core.specs.Words.{Words}
use Rattle.sat_theory.specs.Formula.{bits_of}
use Rattle.enc_theory.specs.Numbering.{sizes_of}
use Rattle.enc_theory.specs.Subproblems.{fence_in}
use Rattle.enc_fence.proofs.Layouts.{fence_laid, small_in}
use Rattle.enc_fence.proofs.encoding.decode_in.Goals as goal

pub decode-requires-clause-chain : goal.decode-requires-clause-chain
decode-requires-clause-chain c =
    let fence = fence_in c.args.subproblem.now in
    let z = c.sizes-z.result in
    let sizes = c.sizes-z.ensures.value ∙ ap (λ (w : Words). sizes_of w c.args.r) c.in_ok-live.ensures.words in
    let laid = fence_laid c.args.basis fence c.pairs_in.result.levels.now z c.pairs_in.result.n
    c.pairs_in.result.ordered (rw c.sizes-z.ensures.value (c.pairs_in.ensures.n
    ∙ c.n.ensures.value)) c.pairs_in.ensures.ordered c.pairs_in.ensures.levels in
    small_in c.args.spec.now c.args.basis c.args.r fence (bits_of c.args.assign.now) z c.deref.result.now sizes (c.deref.ensures.value ∙ c.in_ok-layout.ensures.steps ∙ laid) c.requires.chain
