use Rattle.std.proofs.Common.{◌≡◌, ◌∙◌, [], Some, subst, sym}
use Rattle.clause_db.specs.Stored.{Stored, live_in}
use Rattle.cdcl_core.specs.declared.search.Search.{Search}
use Rattle.cdcl_core.specs.Searching.{IsLogged}
use Rattle.cdcl_core.proofs.Restarting.{logged_restarted}
use Rattle.cdcl_core.proofs.Replacing.{visited_full, begun_logged}
use Rattle.cdcl_core.proofs.search.Search.strengthen.Goals as goal

pub strengthen_unassigned-requires-clause-full : goal.strengthen_unassigned-requires-clause-full
strengthen_unassigned-requires-clause-full c = λ id is. visited_full c.args.self.now c.requires.visited id
    (subst (λ (x : Stored). live_in x id ≡ Some []) (c.begin_shorter.ensures.clauses
    ∙ c.unassign_all.ensures.restarted.clauses) is)

pub returns-clause-logged : goal.returns-clause-logged
returns-clause-logged c = λ f logged.
    let s : Search = c.strengthen_unassigned.new.self in
    let before : IsLogged f s = c.in_ok-strengthen_unassigned.ensures.logged f
    (c.begin_shorter.ensures.logged f (logged_restarted f c.args.self.now c.unassign_all.new.self logged
    c.unassign_all.ensures.restarted)) in
    let packed : IsLogged f (record s { clauses = c.compact.new.self }) = subst (λ (x : Stored). IsLogged f (record s { clauses = x })) (sym c.compact.ensures.same) before in
    begun_logged c.begin.result f (record s { clauses = c.compact.new.self }) c.begin.new.self packed c.begin.ensures.begun
