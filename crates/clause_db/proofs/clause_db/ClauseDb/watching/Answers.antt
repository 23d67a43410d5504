use Rattle.std.proofs.Common.{Contains, sym, subst}
use Rattle.clause_db.specs.Watching.{list_of}
use Rattle.clause_db.specs.Stored.{Stored, Watches}
use Rattle.clause_db.proofs.Databases.{blockers_over, entries_over, entries_beside}
use Rattle.clause_db.proofs.clause_db.ClauseDb.watching.Goals as goal

pub returns-clause-exact : goal.returns-clause-exact
returns-clause-exact c = λ id. (
  (λ there. subst (λ (s : Stored). Watches s id c.args.lit) c.self.view_is
      (c.self.invariant.0.only c.args.lit id (subst (λ (s : Stored). Contains (list_of s.watches c.args.lit) id)
      (sym c.self.view_is) there))),
  (λ watches. subst (λ (s : Stored). Contains (list_of s.watches c.args.lit) id) c.self.view_is
      (c.self.invariant.0.listed c.args.lit id (subst (λ (s : Stored). Watches s id c.args.lit)
      (sym c.self.view_is) watches))),
)

pub returns-clause-beside : goal.returns-clause-beside
returns-clause-beside c = entries_beside _ c.args.self.now c.self.inside.watches.rows c.args.lit c.list.result.now c.self.view_is c.self.invariant.1 c.list.ensures.blockers

pub returns-clause-over : goal.returns-clause-over
returns-clause-over c = entries_over c.args.self.now.vars c.list.result.now
    (blockers_over _ c.args.self.now c.self.inside.watches.rows c.args.lit _ c.self.view_is c.self.invariant.0
    c.self.invariant.1 c.list.ensures.blockers)
