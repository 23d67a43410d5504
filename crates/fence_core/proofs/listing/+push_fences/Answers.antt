use Rattle.std.proofs.Common.{◌≡◌, ℕ, ◌≤◌, ◌-◌, ◌++◌, List, ap, ◌∙◌, arith}
use Rattle.std.specs.List.{range_with_len, flat_map}
use Rattle.fence_core.specs.ByFirst.{fences_with, listed_by_first}
use Rattle.fence_core.proofs.listing.+push_fences.Goals as goal

pub returns-clause-fences : goal.returns-clause-fences
returns-clause-fences t c =
    let some : 1 ≤ c.args.left = omega (arith, c.if-left-eq0.false) in
    let all : c.loop-first.first - 1 ≡ c.args.left = omega (arith, c.loop-first.auto, c.loop-first-test.false) in
    c.loop-first.invariant.fences
    ∙ ap (λ (n : ℕ). c.args.fences.now.items ++ flat_map (fences_with c.args.below.now.items c.args.left c.args.outputs) (range_with_len 1 n)) all
    ∙ ap (λ (fences : List (List ℕ)). c.args.fences.now.items ++ fences) (listed_by_first c.args.below.now.items c.args.left c.args.outputs some)
