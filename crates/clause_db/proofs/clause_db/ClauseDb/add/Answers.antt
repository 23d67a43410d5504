use Rattle.std.proofs.Common.{◌≡◌, ◌+◌, length, rules}
use Rattle.clause_db.proofs.Databases.{added_is, whole_added}
use Rattle.clause_db.proofs.clause_db.ClauseDb.add.Goals as goal

pub invariant_of-self-in-Ok : goal.invariant_of-self-in-Ok
invariant_of-self-in-Ok c =
    let id : c.len-id.result ≡ length c.self.inside.live.items + 1 = search rules in
    whole_added c.self.inside.vars c.self.inside.live.items c.self.inside.watches c.args.self.now c.args.lits.now c.push.new.self.items c.add.new.self c.len-id.result
    c.self.view_is c.self.invariant c.requires.clause c.requires.variables c.requires.few
    c.in_ok-push.ensures.items c.in-Ok.ensures.ok id

pub returns-in-Ok-clause-ok : goal.returns-in-Ok-clause-ok
returns-in-Ok-clause-ok c =
    let id : c.len-id.result ≡ length c.self.inside.live.items + 1 = search rules in
    added_is c.self.inside.vars c.self.inside.live.items c.self.inside.watches c.args.self.now c.args.lits.now c.push.new.self.items c.add.new.self c.len-id.result
    c.self.view_is c.self.invariant.2 c.in_ok-push.ensures.items c.in-Ok.ensures.ok id

pub returns-in-Ok-clause-whole : goal.returns-in-Ok-clause-whole
returns-in-Ok-clause-whole c = (invariant_of-self-in-Ok c).0
