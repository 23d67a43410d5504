use Rattle.clause_db.proofs.Direct.{entry_inside, entry_direct, entry_id, start_id, is_at}
use Rattle.clause_db.proofs.watches.Watches.stands_at.Goals as goal

pub at-watch-requires : goal.at-watch-requires
at-watch-requires c = entry_inside c.self.inside.arena c.self.inside.lists.items c.args.self.now c.args.lit
    c.code.result c.index.result.now c.args.index c.self.view_is c.code.ensures.value c.requires.room c.index.ensures
    c.requires.inside

pub returns : goal.returns
returns c =
    let its_id = entry_id c.self.inside.arena c.self.inside.lists.items c.args.self.now c.args.lit c.code.result
    c.index.result.now c.args.index c.at-watch.result c.self.view_is c.code.ensures.value c.requires.room
    c.index.ensures c.requires.inside c.at-watch.ensures in
    let direct = entry_direct c.self.inside.arena c.self.inside.lists.items c.args.self.now c.args.lit c.code.result
    c.index.result.now c.args.index c.at-watch.result c.self.view_is c.code.ensures.value c.requires.room
    c.index.ensures c.requires.inside c.at-watch.ensures c.self.invariant in
    is_at c.self.inside.arena c.at-watch.result.start c.start.result c.args.id _ direct its_id c.start.ensures.there (start_id c.args.id _ c.requires.some c.start.ensures.id)
