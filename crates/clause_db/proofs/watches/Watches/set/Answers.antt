use Rattle.std.proofs.Common.{ℤ, ◌∙◌, List, slice_set, All, ap, sym, subst}
use Rattle.clause_db.specs.Blockers.{row_of}
use Rattle.clause_db.specs.Lists.{ids_of, blockers_of, IsDirect}
use Rattle.clause_db.proofs.WatchEntries.{ids_set, blockers_set, blockers_inside, shown_row, row_changed}
use Rattle.clause_db.proofs.Direct.{direct_read, direct_set, direct_put}
use Rattle.clause_db.proofs.watches.Watches.set.Goals as goal

pub set-requires : goal.set-requires
set-requires c = blockers_inside c.index_mut.result.now (row_of c.args.self.now.rows c.args.lit) c.args.index
    (shown_row c.self.inside.arena c.self.inside.lists.items c.args.self.now c.args.lit c.code.result
    c.index_mut.result.now c.self.view_is c.code.ensures.value c.requires.room c.index_mut.ensures.value)
    c.requires.beside

pub invariant_of-self : goal.invariant_of-self
invariant_of-self c =
    direct_set c.self.inside.arena c.self.inside.lists.items c.code.result c.set.new.self c.self.invariant
    (subst (All (IsDirect c.self.inside.arena)) (sym c.set.ensures)
    (direct_put c.self.inside.arena c.index_mut.result.now c.args.index c.args.by
    (blockers_inside c.index_mut.result.now (row_of c.args.self.now.rows c.args.lit) c.args.index
    (shown_row c.self.inside.arena c.self.inside.lists.items c.args.self.now c.args.lit c.code.result
    c.index_mut.result.now c.self.view_is c.code.ensures.value c.requires.room c.index_mut.ensures.value)
    c.requires.beside) (direct_read c.self.inside.arena c.self.inside.lists.items c.args.self.now c.args.lit
    c.code.result c.index_mut.result.now c.self.view_is c.code.ensures.value c.requires.room
    c.index_mut.ensures.value c.self.invariant)))

pub returns : goal.returns
returns c = row_changed (λ (ys : List ℤ). slice_set ys c.args.index c.args.by) c.self.inside.arena
    c.self.inside.lists.items c.args.self.now c.args.lit c.code.result c.index_mut.result.now c.set.new.self
    c.self.view_is c.code.ensures.value c.requires.room c.index_mut.ensures.value
    (ap (ids_of c.self.inside.arena.starts) c.set.ensures
    ∙ ids_set c.self.inside.arena.starts c.index_mut.result.now c.args.index c.args.by
    (blockers_inside c.index_mut.result.now (row_of c.args.self.now.rows c.args.lit) c.args.index
    (shown_row c.self.inside.arena c.self.inside.lists.items c.args.self.now c.args.lit c.code.result
    c.index_mut.result.now c.self.view_is c.code.ensures.value c.requires.room c.index_mut.ensures.value)
    c.requires.beside)) (ap blockers_of c.set.ensures ∙ blockers_set c.index_mut.result.now c.args.index c.args.by)
