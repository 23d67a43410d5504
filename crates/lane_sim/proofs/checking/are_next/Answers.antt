use Rattle.std.proofs.Common.{◌≡◌, ◌∙◌, ℕ, List, refl, subst}
use Rattle.std.proofs.lemmas.Option.{get_or_from_slice_get}
use Rattle.net_theory.specs.declared.data.Gate.{Gate}
use Rattle.lane_sim.specs.Checking.{numbered, MayComeNext}
use Rattle.lane_sim.specs.CheckingLaws.{next_more, all_next}
use Rattle.lane_sim.proofs.checking.are_next.Goals as goal

pub loop-i-preserved : goal.loop-i-preserved
loop-i-preserved c =
    next_more c.args.leaves.now c.args.gates.now c.loop-i.i c.loop-i.invariant
    (λ x at.
    let same : c.index-gates-i.result ≡ x = c.index-gates-i.is ∙ get_or_from_slice_get c.args.gates.now c.loop-i.i x _ at in
    subst (λ (xs : List (ℕ × Gate)). MayComeNext (numbered c.args.leaves.now xs) x) c.split_at.ensures.front
    (subst (MayComeNext (numbered c.args.leaves.now c.split_at.result.0.now)) same (c.if-not-is_next.ensures.yes refl)))

pub returns-clause-yes : goal.returns-clause-yes
returns-clause-yes c t = all_next c.args.leaves.now c.args.gates.now c.loop-i.i c.loop-i.invariant c.loop-i-test.false
