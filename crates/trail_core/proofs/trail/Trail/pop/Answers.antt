use Rattle.std.proofs.Common.{rules}
use Rattle.trail_core.proofs.Reading.{trail_popped, back_popped}
use Rattle.trail_core.proofs.trail.Trail.pop.Goals as goal

pub invariant_of-self-2 : goal.invariant_of-self-2
invariant_of-self-2 c = trail_popped _ c.in-Some.lit _ _ c.self.invariant c.in-Some.ensures.items (search rules)

pub returns-clause-back : goal.returns-clause-back
returns-clause-back c = back_popped _ c.args.self.now c.in-Some.lit _ _ c.self.view_is c.self.invariant c.in-Some.ensures.items (search rules)

pub returns-clause-whole : goal.returns-clause-whole
returns-clause-whole c = invariant_of-self-2 c
