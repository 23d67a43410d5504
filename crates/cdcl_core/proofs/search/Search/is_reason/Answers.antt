use Rattle.cdcl_core.proofs.DeletingOne.{no_reason}
use Rattle.cdcl_core.proofs.DeletingToBound.{is_reason}
use Rattle.cdcl_core.proofs.search.Search.is_reason.Goals as goal

pub returns-clause-none : goal.returns-clause-none
returns-clause-none c = λ not. no_reason c.args.self.now c.args.id c.arranged.result.now c.requires.searching c.arranged.ensures.same (c.has_implied.ensures.none not)

pub returns-clause-reason : goal.returns-clause-reason
returns-clause-reason c = λ yes. is_reason c.args.self.now c.args.id c.requires.searching (c.has_implied.ensures.some yes)
