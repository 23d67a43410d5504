use Rattle.std.proofs.Common.{◌∙◌, ◌++◌, ◌∷◌, [], List, false, ap, sym, get_or}
use Rattle.std.proofs.lemmas.List.{map_more}
use Rattle.net_theory.specs.declared.data.Sig.{Sig}
use Rattle.net_theory.specs.declared.data.Sig.TheVariants.{Zero}
use Rattle.net_theory.specs.declared.data.Signed.{Signed}
use Rattle.net_theory.specs.Expansion.{signed}
use Rattle.net_core.proofs.whole.unsigned.Goals as goal

pub loop-sig-preserved : goal.loop-sig-preserved
loop-sig-preserved c =
    c.in_ok-push.ensures.items
    ∙ ap (λ (xs : List Signed). xs ++ signed (get_or c.args.inputs.now c.loop-sig.sig-index Zero) false ∷ []) c.loop-sig.invariant
    ∙ sym (map_more (λ (a : Sig). signed a false) c.args.inputs.now c.loop-sig.sig-index Zero c.loop-sig-test.true)
