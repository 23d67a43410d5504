use Rattle.std.proofs.Common.{◌≡◌, ◌+◌, ◌<◌, ◌++◌, ◌∷◌, [], ℕ, ℤ, Bool, List, Option, All, arith, ap, sym, subst, length, ◌∙◌}
use Rattle.sat_theory.specs.Formula.{variable}
use Rattle.clause_core.specs.Seen.{HoldsList}
use Rattle.clause_core.proofs.Marks.{viewed, list_pushed}
use Rattle.clause_core.proofs.list.ClauseList.push.Goals as goal

pub invariant_of-self-in-Continue-branch-3 : goal.invariant_of-self-in-Continue-branch-3
invariant_of-self-in-Continue-branch-3 c =
    let old = c.self.inside.clauses.items in
    let seen = c.clear_seen.new.seen in
    let size : length seen ≡ c.self.inside.seen.len = c.clear_seen.auto.seen ∙ c.deref_mut-2.ensures.len in
    let whole : length c.deref_mut.result.now ≡ length c.self.inside.seen.items = ap length c.deref_mut.ensures.value in
    let room : length seen ≡ c.self.inside.vars + 1 = omega (arith, size, whole, c.deref_mut.ensures.len, c.self.invariant.room) in
    let kept : length c.gather-whole.new.seen ≡ length seen = omega (arith, size, c.gather-whole.auto.seen, c.deref_mut.ensures.len) in
    let pushed : c.push.new.self.items ≡ old ++ c.gather-whole.new.lits.items ∷ [] = c.in_ok-push.ensures.items ∙ ap (λ (clause : List ℤ). old ++ clause ∷ []) c.new.ensures in
    let within = subst (λ (n : ℕ). All (λ l. variable l < n) c.gather-whole.new.lits.items) kept c.gather-whole.ensures.seen.within in
    subst (λ (xs : List (Option Bool)). HoldsList (record { vars = c.self.inside.vars; clauses = c.push.new.self.items }) xs) (sym (viewed seen _ c.self.inside.seen.len size))
    (list_pushed c.self.inside.vars old c.push.new.self.items seen c.gather-whole.new.lits.items pushed
    c.self.invariant.formula c.self.invariant.few room c.clear_seen.ensures c.gather-whole.ensures.clause within)
