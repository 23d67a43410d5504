use Rattle.std.proofs.Common.{◌∙◌, sym}
use Rattle.clause_db.proofs.Direct.{entry_inside, entry_direct, entry_id}
use Rattle.clause_db.proofs.watches.Watches.id_at.Goals as goal

pub at-watch-requires : goal.at-watch-requires
at-watch-requires c = entry_inside c.self.inside.arena c.self.inside.lists.items c.args.self.now c.args.lit
    c.code.result c.index.result.now c.args.index c.self.view_is c.code.ensures.value c.requires.room c.index.ensures
    c.requires.inside

pub id-requires : goal.id-requires
id-requires c = entry_direct c.self.inside.arena c.self.inside.lists.items c.args.self.now c.args.lit c.code.result
    c.index.result.now c.args.index c.at-watch.result c.self.view_is c.code.ensures.value c.requires.room
    c.index.ensures c.requires.inside c.at-watch.ensures c.self.invariant

pub returns : goal.returns
returns c = sym (entry_id c.self.inside.arena c.self.inside.lists.items c.args.self.now c.args.lit c.code.result
    c.index.result.now c.args.index c.at-watch.result c.self.view_is c.code.ensures.value c.requires.room
    c.index.ensures c.requires.inside c.at-watch.ensures) ∙ c.id.ensures
