use Rattle.std.proofs.Common.{◌<◌, ◌≤◌, ◌-◌, length, rules}
use Rattle.clause_db.proofs.Shown.{live_read, live_beyond}
use Rattle.clause_db.proofs.clause_db.ClauseDb.live.Goals as goal

pub returns-in-Some : goal.returns-in-Some
returns-in-Some c =
    let low : c.args.id - 1 < length c.deref.result.now = search rules in
    let some : 0 < c.args.id = search rules in
    live_read c.self.inside.vars c.self.inside.live.items c.self.inside.watches c.args.self.now c.args.id c.in-Some.live.now c.self.view_is c.self.invariant.2 some
    (rw c.deref.ensures.value at low) (rw c.deref.ensures.value at c.in-Some.ensures.lookup.1)

pub returns-in-None : goal.returns-in-None
returns-in-None c =
    let past : length c.deref.result.now ≤ c.args.id - 1 = search rules in
    let some : 0 < c.args.id = search rules in
    live_beyond c.self.inside.vars c.self.inside.live.items c.self.inside.watches c.args.self.now c.args.id c.self.view_is c.self.invariant.2 some (rw c.deref.ensures.value at past)
