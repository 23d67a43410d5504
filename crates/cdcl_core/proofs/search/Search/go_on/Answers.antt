use Rattle.std.proofs.Common.{subst, sym}
use Rattle.cdcl_core.specs.declared.search.Search.{Search}
use Rattle.cdcl_core.specs.Searching.{IsLogged}
use Rattle.cdcl_core.proofs.search.Search.go_on.Goals.{then-self-eq0+in_ok-conflict+in_default-2, else-self-eq0}
use Rattle.cdcl_core.proofs.search.Search.go_on.Goals as goal

pub returns-clause-ends : goal.returns-clause-ends
returns-clause-ends c = λ f logged.
    let paused : IsLogged f c.run.new.self = rw c.in_default.is at c.in_ok-ending.ensures.logged f logged in
    let strengthened : IsLogged f c.if-self-eq0.self = elim c.if-self-eq0.branch [
      | then-self-eq0+in_ok-conflict+in_default-2 w ↦ subst (λ (x : Search). IsLogged f x) (sym w.self-is) (w.in_ok-conflict.ensures.logged f paused)
      | else-self-eq0 w ↦ subst (λ (x : Search). IsLogged f x) (sym w.self-is) paused
    ] in
    c.run_on.ensures.ends f strengthened
