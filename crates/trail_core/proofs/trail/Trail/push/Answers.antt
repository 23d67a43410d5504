use Rattle.std.proofs.Common.{◌≡◌, length, rules}
use Rattle.trail_core.proofs.Reading.{trail_pushed}
use Rattle.trail_core.proofs.trail.Trail.push.Goals as goal

pub invariant_of-self-2 : goal.invariant_of-self-2
invariant_of-self-2 c =
    let long : c.len.result ≡ length c.push.new.self.items = search rules in
    let code : c.code.result ≡ _ = c.code.ensures.value in
    trail_pushed _ c.args.self.now c.args.lit _ c.args.reason _ _ _ c.self.view_is c.self.invariant
    c.in_ok-push.ensures.items (search rules) long c.variable.ensures.value c.variable.ensures.some c.requires.over
    c.requires.free

pub returns-clause-whole : goal.returns-clause-whole
returns-clause-whole c = invariant_of-self-2 c
