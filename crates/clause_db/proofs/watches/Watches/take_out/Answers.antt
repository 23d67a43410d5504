use Rattle.std.proofs.Common.{ℕ, ℤ, pos, ◌∙◌, List, All, ap, sym, subst}
use Rattle.std.specs.List.{swap_remove}
use Rattle.clause_db.specs.Watching.{watch_list_in}
use Rattle.clause_db.specs.Lists.{ids_of, blockers_of, IsDirect}
use Rattle.clause_db.proofs.WatchEntries.{ids_swap, blockers_swap, ids_inside, shown_list, changed}
use Rattle.clause_db.proofs.Direct.{direct_read, direct_set, direct_swap}
use Rattle.clause_db.proofs.watches.Watches.take_out.Goals as goal

pub take_out-requires : goal.take_out-requires
take_out-requires c = ids_inside c.self.inside.arena.starts c.index_mut.result.now
    (watch_list_in c.args.self.now.lists c.args.lit) c.args.index
    (shown_list c.self.inside.arena c.self.inside.lists.items c.args.self.now c.args.lit c.code.result
    c.index_mut.result.now c.self.view_is c.code.ensures.value c.requires.room c.index_mut.ensures.value)
    c.requires.inside

pub invariant_of-self : goal.invariant_of-self
invariant_of-self c =
    direct_set c.self.inside.arena c.self.inside.lists.items c.code.result c.take_out.new.self c.self.invariant
    (subst (All (IsDirect c.self.inside.arena)) (sym c.take_out.ensures)
    (direct_swap c.self.inside.arena c.index_mut.result.now c.args.index
    (ids_inside c.self.inside.arena.starts c.index_mut.result.now (watch_list_in c.args.self.now.lists c.args.lit)
    c.args.index (shown_list c.self.inside.arena c.self.inside.lists.items c.args.self.now c.args.lit c.code.result
    c.index_mut.result.now c.self.view_is c.code.ensures.value c.requires.room c.index_mut.ensures.value)
    c.requires.inside) (direct_read c.self.inside.arena c.self.inside.lists.items c.args.self.now c.args.lit
    c.code.result c.index_mut.result.now c.self.view_is c.code.ensures.value c.requires.room
    c.index_mut.ensures.value c.self.invariant)))

pub returns : goal.returns
returns c = changed (λ (xs : List ℕ). swap_remove xs c.args.index 0) (λ (ys : List ℤ).
    swap_remove ys c.args.index (pos 1)) c.self.inside.arena c.self.inside.lists.items c.args.self.now c.args.lit
    c.code.result c.index_mut.result.now c.take_out.new.self c.self.view_is c.code.ensures.value c.requires.room
    c.index_mut.ensures.value (ap (ids_of c.self.inside.arena.starts) c.take_out.ensures
    ∙ ids_swap c.self.inside.arena.starts c.index_mut.result.now c.args.index
    (ids_inside c.self.inside.arena.starts c.index_mut.result.now (watch_list_in c.args.self.now.lists c.args.lit)
    c.args.index (shown_list c.self.inside.arena c.self.inside.lists.items c.args.self.now c.args.lit c.code.result
    c.index_mut.result.now c.self.view_is c.code.ensures.value c.requires.room c.index_mut.ensures.value)
    c.requires.inside)) (ap blockers_of c.take_out.ensures
    ∙ blockers_swap c.index_mut.result.now c.args.index (ids_inside c.self.inside.arena.starts c.index_mut.result.now
    (watch_list_in c.args.self.now.lists c.args.lit) c.args.index
    (shown_list c.self.inside.arena c.self.inside.lists.items c.args.self.now c.args.lit c.code.result
    c.index_mut.result.now c.self.view_is c.code.ensures.value c.requires.room c.index_mut.ensures.value)
    c.requires.inside))
