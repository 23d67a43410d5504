use Rattle.std.proofs.Common.{ℕ, List, [], refl, sym, ◌∙◌, ap, subst}
use Rattle.std.specs.Prelude.{slice_get}
use Rattle.std.proofs.lemmas.Option.{get_or_from_slice_get}
use Rattle.net_theory.specs.declared.data.Sig.TheVariants.{Node}
use Rattle.lane_sim.specs.Cone.{IsSigAmong}
use Rattle.lane_sim.specs.Checking.{numbered}
use Rattle.lane_sim.specs.CheckingLaws.{leaf_numbered, new_more, all_new}
use Rattle.lane_sim.proofs.checking.are_new.Goals as goal

pub loop-i-preserved : goal.loop-i-preserved
loop-i-preserved c =
    let front : List ℕ = c.split_at.result.0.now in
    new_more c.args.leaves.now c.loop-i.i c.loop-i.invariant
    (λ q at among.
    let there = leaf_numbered front [] q among.0 (ap (λ (xs : List ℕ). slice_get xs among.0) c.split_at.ensures.front ∙ among.1) in
    c.if-is_numbered.ensures.no refl (subst (λ (p : ℕ). IsSigAmong (numbered front []) (Node p)) (sym (get_or_from_slice_get c.args.leaves.now c.loop-i.i q 0 at)) there))

pub returns-clause-yes : goal.returns-clause-yes
returns-clause-yes c t = all_new c.args.leaves.now c.loop-i.i c.loop-i.invariant c.loop-i-test.false
