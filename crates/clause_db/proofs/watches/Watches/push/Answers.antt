use Rattle.std.proofs.Common.{ℕ, ℤ, List, [], ◌∷◌, ◌++◌, ◌∙◌, All, ap, sym, subst}
use Rattle.clause_db.specs.Arranging.{Arranged}
use Rattle.std.proofs.lemmas.List.Elements.{All-push}
use Rattle.clause_db.specs.Lists.{ids_of, blockers_of, IsDirect}
use Rattle.clause_db.proofs.WatchEntries.{ids_push, blockers_push, changed}
use Rattle.clause_db.proofs.Direct.{direct_read, direct_set, start_direct, start_id}
use Rattle.clause_db.proofs.watches.Watches.push.Goals as goal

pub invariant_of-self-2 : goal.invariant_of-self-2
invariant_of-self-2 c =
    direct_set c.self.inside.arena c.self.inside.lists.items c.code.result c.push.new.self c.self.invariant (subst (All (IsDirect c.self.inside.arena)) (sym c.in_ok-push.ensures.ok)
    (All-push (IsDirect c.self.inside.arena) c.index_mut.result.now _
    (direct_read c.self.inside.arena c.self.inside.lists.items c.args.self.now c.args.lit c.code.result
    c.index_mut.result.now c.self.view_is c.code.ensures.value c.requires.room c.index_mut.ensures.value
    c.self.invariant)
    (start_direct c.self.inside.arena c.args.self.now.arena c.args.id c.start-start.result
    (ap (λ (x : Arranged). x.arena) c.self.view_is) c.requires.some c.requires.given c.start-start.ensures.there
    c.start-start.ensures.id)))

pub returns-clause-ok : goal.returns-clause-ok
returns-clause-ok c =
    changed (λ (xs : List ℕ). xs ++ c.args.id ∷ []) (λ (ys : List ℤ). ys ++
    c.args.blocker ∷ []) c.self.inside.arena c.self.inside.lists.items c.args.self.now c.args.lit c.code.result
    c.index_mut.result.now c.push.new.self c.self.view_is c.code.ensures.value c.requires.room
    c.index_mut.ensures.value
    (ap (ids_of c.self.inside.arena.starts) c.in_ok-push.ensures.ok ∙ ids_push c.self.inside.arena.starts _ _
    ∙ ap (λ (n : ℕ). ids_of c.self.inside.arena.starts c.index_mut.result.now ++
    n ∷ []) (start_id c.args.id _ c.requires.some c.start-start.ensures.id)) (ap blockers_of c.in_ok-push.ensures.ok
    ∙ blockers_push _ _)
