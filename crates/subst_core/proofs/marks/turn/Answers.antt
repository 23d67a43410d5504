use Rattle.std.proofs.Common.{◌∙◌, get_or, not, false, refl, arith}
use Rattle.std.proofs.lemmas.List.{length-set}
use Rattle.subst_core.proofs.Marking.{turned_next}
use Rattle.subst_core.proofs.marks.turn.Goals as goal

pub loop-mark-preserved : goal.loop-mark-preserved
loop-mark-preserved c =
    let old = c.args.marks.now in
    let new = c.loop-mark.marks in
    let i = c.loop-mark.mark-index in
    let size = c.loop-mark.invariant.size in
    record {
      size = length-set new i (not (get_or new i false)) ∙ size;
      turned = turned_next old new i (get_or new i false) size (omega (arith, size)) refl c.loop-mark.invariant.turned;
    }
