use Rattle.std.proofs.Common.{ap}
use Rattle.clause_db.specs.Arranging.{Arranged}
use Rattle.clause_db.proofs.Direct.{entry_inside, entry_direct, entry_id, read_direct}
use Rattle.clause_db.proofs.watches.Watches.entry_block.Goals as goal

pub at-watch-requires : goal.at-watch-requires
at-watch-requires c = entry_inside c.self.inside.arena c.self.inside.lists.items c.args.self.now c.args.lit
    c.code.result c.index.result.now c.args.index c.self.view_is c.code.ensures.value c.requires.room c.index.ensures
    c.requires.inside

pub read-requires : goal.read-requires
read-requires c = entry_direct c.self.inside.arena c.self.inside.lists.items c.args.self.now c.args.lit c.code.result
    c.index.result.now c.args.index c.at-watch.result c.self.view_is c.code.ensures.value c.requires.room
    c.index.ensures c.requires.inside c.at-watch.ensures c.self.invariant

pub returns : goal.returns
returns c = read_direct c.self.inside.arena c.args.self.now.arena c.at-watch.result.start _ c.read.result.now
    (ap (λ (x : Arranged). x.arena) c.self.view_is)
    (entry_id c.self.inside.arena c.self.inside.lists.items c.args.self.now c.args.lit c.code.result c.index.result.now
    c.args.index c.at-watch.result c.self.view_is c.code.ensures.value c.requires.room c.index.ensures
    c.requires.inside c.at-watch.ensures) c.read.ensures
