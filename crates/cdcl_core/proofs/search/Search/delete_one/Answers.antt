use Rattle.clause_db.specs.DeletingLaws.{some_live}
use Rattle.clause_db.specs.Stored.{live_in}
use Rattle.cdcl_core.proofs.DeletingOne.{pending_lost}
use Rattle.cdcl_core.proofs.search.Search.delete_one.Goals as goal

pub returns-clause-pending : goal.returns-clause-pending
returns-clause-pending c = λ f pending.
    let s = c.args.self.now in
    let live = some_live (live_in s.clauses c.args.id) c.requires.live in
    rw c.in_ok-push.ensures.items (pending_lost f s c.delete.new.self c.args.gone.now.items c.args.id live.0 pending
    c.requires.stored live.1 c.requires.learnt c.delete.ensures.deleted c.requires.half)
