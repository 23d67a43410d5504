-- The new entry has a proved bound too.
use Rattle.std.proofs.Common.{sym, subst}
use Rattle.op_basis.specs.Basis.{members}
use Rattle.spec_cache.specs.ProvedBounds.{CacheContents, IsProvedBound}
use Rattle.spec_cache.specs.BoundLaws.{noted_bounds}
use Rattle.spec_cache.proofs.cache.SpecCache.note.Goals as goal

pub invariant_of-self-2 : goal.invariant_of-self-2
invariant_of-self-2 c =
    noted_bounds c.self.inside.basis c.self.inside.found.entries c.insert.new.self.entries c.args.key c.args.found c.self.invariant
    (subst (λ (m : CacheContents). IsProvedBound (members m.basis) c.args.key c.args.found.fewest) (sym c.self.view_is) c.requires)
    c.in_ok-insert.ensures.updates.0
