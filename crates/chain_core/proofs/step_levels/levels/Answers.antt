use Rattle.std.proofs.Common.{◌≡◌, ℕ, ◌+◌, ◌-◌, List, map, length, arith, refl, sym, ap, ◌∙◌}
use Rattle.std.specs.List.{range_with_len}
use Rattle.std.proofs.lemmas.List.{length-map}
use Rattle.chain_theory.specs.Chain as chain
use Rattle.chain_core.specs.Steps.{step_of, steps_of}
use Rattle.chain_theory.specs.Levels.{level_in}
use Rattle.chain_core.specs.SliceLevels.{slice_levels, levels_of}
use Rattle.chain_core.proofs.LevelRuns.{none_is_high, levels_are, next_place}
use Rattle.chain_core.proofs.step_levels.levels.Goals as goal

pub levels_into-requires-clause-low : goal.levels_into-requires-clause-low
levels_into-requires-clause-low c = none_is_high c.n-n.result

pub loop-place-preserved : goal.loop-place-preserved
unfolding slice_levels
loop-place-preserved c =
    c.in_ok-push.ensures.items
    ∙ next_place c.levels_into.new.levels c.loop-place.levels.items (c.n-n.result + 1) c.loop-place.place _ (omega (arith, c.loop-place.auto)) refl c.loop-place.invariant

pub returns : goal.returns
unfolding levels_of
returns c =
    let n = c.n-n.ensures.n in
    let steps = c.steps-steps.ensures.steps in
    let count : length c.steps-steps.result.now ≡ length c.args.chain.now.steps = sym (length-map c.steps-steps.result.now step_of) ∙ ap length steps in
    let all : c.loop-place.place - (c.n-n.result + 1) ≡ length c.args.chain.now.steps = omega (arith, count, c.loop-place.auto, c.loop-place-test.false) in
    let heights_are : slice_levels c.levels_into.new.levels ≡
    level_in c.n-n.result (steps_of c.steps-steps.result.now) =
    levels_are c.levels_into.new.levels c.n-n.result (steps_of c.steps-steps.result.now) c.levels_into.ensures in
    c.loop-place.invariant
    ∙ ap (λ (k : ℕ). map (slice_levels c.levels_into.new.levels) (range_with_len (c.n-n.result + 1) k)) all
    ∙ ap (λ (f : ℕ → ℕ). map f (range_with_len (c.n-n.result + 1) (length c.args.chain.now.steps))) heights_are
    ∙ ap (λ (ss : List chain.Step). map (level_in c.n-n.result ss) (range_with_len (c.n-n.result + 1) (length c.args.chain.now.steps))) steps
    ∙ ap (λ (x : ℕ). map (level_in x c.args.chain.now.steps) (range_with_len (x + 1) (length c.args.chain.now.steps))) n
