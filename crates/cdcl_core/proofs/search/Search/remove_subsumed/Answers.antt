use Rattle.cdcl_core.specs.Strengthening.{CanReplace}
use Rattle.cdcl_core.proofs.Replacing.{logged_aside}
use Rattle.cdcl_core.proofs.search.Search.remove_subsumed.Goals as goal

pub returns-clause-logged : goal.returns-clause-logged
returns-clause-logged c = λ f logged.
    let stand : CanReplace c.args.self.now c.args.by c.args.id = c.can_replace.ensures c.if-not-can_replace.false in
    logged_aside f c.args.self.now c.delete.new.self c.args.by c.args.id logged stand c.delete.ensures.deleted
