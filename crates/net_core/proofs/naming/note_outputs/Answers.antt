use Rattle.std.proofs.Common.{◌-◌, ◌∙◌, ℕ, arith, length, sym, subst, []}
use Rattle.std.proofs.lemmas.Option.{slice_get-get_or}
use Rattle.net_theory.specs.declared.data.Sig.TheVariants.{Zero}
use Rattle.net_theory.specs.Net.{IsSigBelow}
use Rattle.std.specs.List.{slice_index_or}
use Rattle.net_core.proofs.Firsts.{firsts_next}
use Rattle.net_core.proofs.naming.note_outputs.Goals as goal

pub loop-at-preserved : goal.loop-at-preserved
loop-at-preserved c =
    let at = c.loop-at.at - 1 in
    let below : IsSigBelow (length c.loop-at.firsts) (slice_index_or c.args.sinks.now at Zero) =
    subst (λ (n : ℕ). IsSigBelow n (slice_index_or c.args.sinks.now at Zero)) (sym c.loop-at.invariant.count)
    (c.requires.below at Zero (omega arith)) in
    record {
      within = omega arith;
      firsts = rw c.note_output.ensures (firsts_next c.loop-at.firsts c.args.outputs.now c.args.sinks.now c.loop-at.at
          _ _ (omega arith) (slice_get-get_or c.args.outputs.now at [] (omega arith))
          (slice_get-get_or c.args.sinks.now at Zero (omega arith)) below c.loop-at.invariant.firsts);
      count = c.note_output.auto.firsts ∙ c.loop-at.invariant.count;
    }
