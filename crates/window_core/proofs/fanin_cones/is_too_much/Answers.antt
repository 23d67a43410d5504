use Rattle.std.proofs.Common.{◌≡◌, [], ◌∷◌, ◌<◌, ◌≤◌, ℕ, List, length, subst, arith}
use Rattle.std.proofs.lemmas.Bool.{ltb-true, ltb-false}
use Rattle.window_theory.specs.Nodes.{IsRising}
use Rattle.window_core.specs.Expanding.{leaves_after}
use Rattle.window_core.specs.ExpandingLaws.{rising_prefix, same_prefix}
use Rattle.window_core.proofs.fanin_cones.is_too_much.Goals as goal
use Rattle.net_theory.specs.Limits.{most_leaves}

pub count_leaves_after-requires : goal.count_leaves_after-requires
count_leaves_after-requires c = rising_prefix c.in-Some.prefix.now (c.in-Some._last.now ∷ []) (subst IsRising c.in-Some.ensures.cases.0 c.requires)

pub returns-in-Some-clause-yes : goal.returns-in-Some-clause-yes
returns-in-Some-clause-yes c = λ e prefix p parts.
    let same : c.in-Some.prefix.now ≡ prefix = (same_prefix c.args.leaves.now c.in-Some.prefix.now prefix c.in-Some._last.now p c.in-Some.ensures.cases.0 parts).0 in
    subst (λ (xs : List ℕ). most_leaves < length (leaves_after xs c.args.gate.now)) same (omega (arith, ltb-true 12 c.count_leaves_after.result e, c.count_leaves_after.ensures))

pub returns-in-Some-clause-no : goal.returns-in-Some-clause-no
returns-in-Some-clause-no c = λ e prefix p parts.
    let same : c.in-Some.prefix.now ≡ prefix = (same_prefix c.args.leaves.now c.in-Some.prefix.now prefix c.in-Some._last.now p c.in-Some.ensures.cases.0 parts).0 in
    subst (λ (xs : List ℕ). length (leaves_after xs c.args.gate.now) ≤ most_leaves) same (omega (arith, ltb-false 12 c.count_leaves_after.result e, c.count_leaves_after.ensures))
