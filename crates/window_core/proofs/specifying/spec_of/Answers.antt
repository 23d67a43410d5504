use Rattle.std.proofs.Common.{◌≡◌, ◌∙◌, ℕ, [], List, length, ap, sym, subst}
use Rattle.std.proofs.lemmas.Result.{IfOk-weaker}
use Rattle.tt_core.specs.Words.{Words, specification}
use Rattle.window_theory.specs.Nodes.{among}
use Rattle.window_theory.specs.Care.{IsSpecificationOf}
use Rattle.window_core.specs.Masking.{IsCareMask, AreMasked}
use Rattle.window_core.specs.MaskingLaws.{specification_is}
use Rattle.window_core.proofs.specifying.spec_of.Goals as goal

pub care_rows-requires-clause-within : goal.care_rows-requires-clause-within
care_rows-requires-clause-within c = λ p e.
    (c.requires.within p (ap (λ (xs : List ℕ). among xs p) (sym c.inputs.ensures.value) ∙ e)).1

pub returns : goal.returns
returns c =
    IfOk-weaker c.spec_by.result
    (λ (s : Words). (s.n ≡ length c.args.window.now.inputs) × AreMasked c.in_ok-cone.cone c.in_ok-mask.mask c.args.window.now.outputs [] s.on s.care)
    (λ (s : Words). IsSpecificationOf c.args.net.now c.args.window.now (specification s))
    (λ s is.
    specification_is c.args.net.now c.args.window.now c.in_ok-cone.cone c.in_ok-mask.mask s
    c.sources-sources.ensures.net c.requires c.in_ok-cone.ensures.leaves c.in_ok-cone.ensures.nodes
    c.in_ok-cone.ensures.gates
    (subst (λ (ps : List ℕ). IsCareMask c.args.net.now ps c.in_ok-mask.mask) c.inputs.ensures.value c.in_ok-mask.ensures) is.0 is.1)
    c.spec_by.ensures
