use Rattle.std.proofs.Common.{◌≡◌, Bool, true, false}
use Rattle.clause_db.specs.Stored.{live_in}
use Rattle.subsume_core.specs.InsideLaws.{none_empty}
use Rattle.solver_tests.proofs.subsuming.are_new.Goals as goal

not_both : (b : Bool) → b ≡ true → b ≡ false → ⊥
not_both b on off = cc

pub wrongly_new-wrong-requires-clause-some : goal.wrongly_new-wrong-requires-clause-some
wrongly_new-wrong-requires-clause-some c = none_empty c.in_ok-cnf.cnf.clauses
    (live_in c.in_ok-clauses.clauses) c.in_ok-clauses.ensures.clauses (λ there.
    not_both c.has_empty.result (c.has_empty.ensures.value.1 there) c.if-has_empty.false)

pub comes-requires-clause-some : goal.comes-requires-clause-some
comes-requires-clause-some c = none_empty c.in_ok-cnf.cnf.clauses
    (live_in c.in_ok-clauses.clauses) c.in_ok-clauses.ensures.clauses (λ there.
    not_both c.has_empty.result (c.has_empty.ensures.value.1 there) c.if-has_empty.false)
