use Rattle.std.proofs.Common.{◌≡◌, ℕ, ◌^◌, arith, subst, length}
use Rattle.lane_sim.specs.SeenLaws.{above_zero}
use Rattle.observe_core.specs.Forcing.{Distinguish}
use Rattle.observe_core.specs.DifferingLaws.{all_numbers}
use Rattle.observe_core.proofs.output_differences.add_all_bits.Goals as goal

pub returns-clause-distinguished : goal.returns-clause-distinguished
returns-clause-distinguished c =
    let end : c.loop-bits.bits ≡ 2 ^ length c.args.forced.outputs.now =
    omega (
      arith,
      c.loop-bits-test.false,
      c.loop-bits.auto.bits-end,
      all_numbers (length c.args.forced.outputs.now) c.args.forced.few,
      above_zero (length c.args.forced.outputs.now),
    )
    in
    subst (λ (k : ℕ). Distinguish c.args.forced k c.loop-bits.differ) end c.loop-bits.invariant.0
