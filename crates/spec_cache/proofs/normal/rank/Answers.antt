-- A rank is an index.
use Rattle.std.proofs.Common.{◌≡◌, ℕ, ◌<◌, length, sym, ap, ◌∙◌, subst, arith}
use Rattle.chain_laws.specs.Tallies.{tally}
use Rattle.spec_cache.specs.Ranks.{comes_before, rank_low}
use Rattle.spec_cache.proofs.normal.rank.Goals as goal

pub returns-clause-low : goal.returns-clause-low
returns-clause-low c =
    let all : c.loop-other.other ≡ length c.args.weights.now = omega (arith, c.loop-other.auto.other-end, c.loop-other-test.false, c.requires.few) in
    subst (λ (k : ℕ). k < length c.args.weights.now) (sym (c.loop-other.invariant.0
    ∙ ap (tally (comes_before c.args.weights.now c.args.index)) all))
    (rank_low c.args.weights.now c.args.index c.requires.index)
