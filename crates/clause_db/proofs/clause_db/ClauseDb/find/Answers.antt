use Rattle.std.proofs.Common.{ℕ, ◌<◌, List, length, Contains, arith, rules}
use Rattle.clause_db.specs.Watching.{list_of}
use Rattle.clause_db.specs.Adding.{watched_variable}
use Rattle.clause_db.proofs.WatchEntries.{found, some_there}
use Rattle.clause_db.proofs.clause_db.ClauseDb.find.Goals as goal

pub watching-count-requires : goal.watching-count-requires
watching-count-requires c = watched_variable c.args.self.now c.args.id c.args.lit c.last-last.ensures.whole c.requires

pub loop-index-init : goal.loop-index-init
loop-index-init c =
    let some : 0 < length (list_of c.args.self.now.watches c.args.lit) = some_there (list_of c.args.self.now.watches c.args.lit) c.args.id ((c.watching-count.ensures.exact c.args.id).1 c.requires) in
    record { inside = search rules; before = λ k early. absurd (omega (arith, early)) }

pub returns-after-loop-index-clause-there : goal.returns-after-loop-index-clause-there
returns-after-loop-index-clause-there c =
    let ids : List ℕ = list_of c.args.self.now.watches c.args.lit in
    let there : Contains ids c.args.id = (c.watching-count.ensures.exact c.args.id).1 c.requires in
    let inside : c.loop-index.index < length ids = search rules in
    found ids c.args.id c.loop-index.index there inside c.loop-index.invariant.before (λ more. search rules)
