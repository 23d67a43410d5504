-- The bound of the entry is proved.
use Rattle.std.proofs.Common.{sym, ap, ◌∙◌, subst}
use Rattle.spec_cache.specs.ProvedBounds.{CacheContents, HasProvedBounds, found_at}
use Rattle.spec_cache.proofs.cache.SpecCache.fewest.Goals as goal

pub returns-in-Some-clause-bound : goal.returns-in-Some-clause-bound
returns-in-Some-clause-bound c =
    (subst (λ (m : CacheContents). HasProvedBounds m) c.self.view_is c.self.invariant) c.args.key.now c.in-Some.found.now
    (ap (λ (m : CacheContents). found_at m c.args.key.now) (sym c.self.view_is) ∙ sym c.in-Some.ensures.value)
