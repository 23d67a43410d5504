-- All weights have ranks.
use Rattle.std.proofs.Common.{◌≡◌, length, arith}
use Rattle.spec_cache.specs.Permuting.{ranked_permuting}
use Rattle.spec_cache.proofs.normal.ranked.Goals as goal

pub returns : goal.returns
returns c =
    let all : c.loop-before.before ≡ length c.args.weights.now = omega (arith, c.loop-before.auto.before-end, c.loop-before-test.false, c.requires) in
    ranked_permuting c.args.weights.now c.loop-before.order.items c.loop-before.before c.loop-before.invariant all
