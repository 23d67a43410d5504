use Rattle.std.proofs.Common.{◌≡◌, ◌∙◌, ℕ, ◌-◌, ◌^◌, arith, ap}
use Rattle.std.proofs.lemmas.Nat.Bits.{ones_shr}
use Rattle.lane_sim.proofs.showing.ones.Goals as goal

pub returns : goal.returns
returns c =
    let back : 64 - (64 - c.args.count) ≡ c.args.count = omega (arith, c.requires.few) in
    ones_shr 64 (64 - c.args.count) (omega arith) ∙ ap (λ (k : ℕ). 2 ^ k - 1) back
