use Rattle.std.proofs.Common.{ℕ, ℤ, ◌-◌, ◌∙◌, List, length, take, All, ap, sym, subst}
use Rattle.std.proofs.lemmas.List.Elements.{All-take}
use Rattle.clause_db.specs.Lists.{WatchEntries, ids_of, blockers_of, IsDirect}
use Rattle.clause_db.proofs.WatchEntries.{ids_front, blockers_front, changed}
use Rattle.clause_db.proofs.Direct.{direct_read, direct_set}
use Rattle.clause_db.proofs.watches.Watches.take_last.Goals as goal

pub invariant_of-self : goal.invariant_of-self
invariant_of-self c =
    let e : WatchEntries = c.index_mut.result.now in
    direct_set c.self.inside.arena c.self.inside.lists.items c.code.result c.take_last.new.self c.self.invariant
    (subst (All (IsDirect c.self.inside.arena)) (sym c.take_last.ensures)
    (All-take (IsDirect c.self.inside.arena) (length e - 1) e
    (direct_read c.self.inside.arena c.self.inside.lists.items c.args.self.now c.args.lit c.code.result
    c.index_mut.result.now c.self.view_is c.code.ensures.value c.requires c.index_mut.ensures.value
    c.self.invariant)))

pub returns : goal.returns
returns c = changed (λ (xs : List ℕ). take (length xs - 1) xs) (λ (ys : List ℤ).
    take (length ys - 1) ys) c.self.inside.arena c.self.inside.lists.items c.args.self.now c.args.lit c.code.result
    c.index_mut.result.now c.take_last.new.self c.self.view_is c.code.ensures.value c.requires
    c.index_mut.ensures.value (ap (ids_of c.self.inside.arena.starts) c.take_last.ensures
    ∙ ids_front c.self.inside.arena.starts c.index_mut.result.now) (ap blockers_of c.take_last.ensures
    ∙ blockers_front c.index_mut.result.now)
