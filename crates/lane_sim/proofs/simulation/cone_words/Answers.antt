use Rattle.std.proofs.Common.{◌≡◌, ◌∙◌, ◌*◌, ◌%◌, ◌^◌, ◌≤◌, ℕ, arith, length, refl, sym, ap, subst}
use Rattle.lane_sim.specs.LaneLaws.{all_words}
use Rattle.lane_sim.specs.PatternLaws.{cone_rows, cone_width}
use Rattle.lane_sim.proofs.simulation.cone_words.Goals as goal
use Rattle.net_theory.specs.Limits.{most_leaves}

pub simulate_leaves-requires-clause-width : goal.simulate_leaves-requires-clause-width
simulate_leaves-requires-clause-width c =
    let few : length c.leaves.result.now ≤ most_leaves = omega (arith, c.leaves.ensures.whole.few, ap length c.leaves.ensures.value) in
    subst (λ (w : ℕ). w ≤ 64) (sym c.width_of-width.ensures) (cone_width (length c.leaves.result.now) few)

pub simulate_gates-requires-clause-width : goal.simulate_gates-requires-clause-width
simulate_gates-requires-clause-width c =
    let few : length c.leaves.result.now ≤ most_leaves = omega (arith, c.leaves.ensures.whole.few, ap length c.leaves.ensures.value) in
    subst (λ (w : ℕ). w ≤ 64) (sym c.width_of-width.ensures) (cone_width (length c.leaves.result.now) few)

pub returns : goal.returns
returns c =
    let few : length c.leaves.result.now ≤ most_leaves = omega (arith, c.leaves.ensures.whole.few, ap length c.leaves.ensures.value) in
    let rows : 1 * 2 ^ length c.leaves.result.now % 4294967296 ≡ 2 ^ length c.args.cone.now.leaves =
    cone_rows (length c.leaves.result.now) few ∙ ap (λ (n : ℕ). 2 ^ n) (ap length c.leaves.ensures.value) in
    all_words c.args.cone.now c.width_of-width.result (64 * c.width_of-width.result) _ c.simulate_gates.new.lanes.items
    (record { lanes = c.simulate_gates.new.lanes.items; rows = 1 * 2 ^ length c.leaves.result.now % 4294967296 })
    c.in_ok-simulate_gates.ensures refl rows c.width_of-width.ensures (omega (arith, c.width_of-width.ensures))
