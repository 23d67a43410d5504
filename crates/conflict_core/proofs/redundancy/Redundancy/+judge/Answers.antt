use Rattle.std.proofs.Common.{◌≡◌, ◌-◌, ◌+◌, ◌<◌, ◌≤◌, ◌++◌, ◌∷◌, [], if◌then◌else◌, ℕ, ℤ, Bool, true, false, List, length, All, Contains, sym, subst, ◌∙◌, arith}
use Rattle.std.proofs.lemmas.Bool.{both_ways}
use Rattle.std.proofs.lemmas.List.Elements.{All-push, Contains-get_or}
use Rattle.std.specs.Ordering.{int_eq}
use Rattle.std.specs.Result.{is_ok}
use Rattle.sat_theory.specs.Formula.{variable}
use Rattle.cdcl_theory.specs.CodeLaws.{int_eq-same}
use Rattle.cdcl_theory.specs.Trails.{falsified_at}
use Rattle.clause_db.specs.Stored.{live_in}
use Rattle.conflict_core.proofs.Explaining.{others_down}
use Rattle.conflict_core.proofs.redundancy.Redundancy.+judge.Goals as goal

-- the depth decreases
less : (depth t : ℕ) → depth ≡ t → (depth ≡ 0 → ⊥) → depth - 1 < t
less depth t same some = omega arith

-- where one may have been pushed, all are inside
pushed_inside : (n : ℕ) (b : Bool) (xs : List ℤ) (x : ℤ) → All (λ l. variable l < n) xs → variable x < n → All (λ l. variable l < n) (if b then xs ++ x ∷ [] else xs)
pushed_inside n true xs x old new = All-push (λ l. variable l < n) xs x old new
pushed_inside n false xs x old new = old

pub judge-requires : goal.judge-requires
judge-requires t c =
    let items = c.arranged-other-items.result.now in
    let m : ℤ = c.other-item.result in
    let there : Contains items m = subst (λ (x : ℤ). Contains items x) (sym c.other-item.is) (Contains-get_or items c.loop-other.other-index m c.loop-other-test.true) in
    let over : variable m ≤ c.args.trail.now.vars =
    subst (λ (n : ℕ). variable m ≤ n) c.requires.vars (subst (λ (x : ℤ). variable x ≤ c.args.clauses.now.vars)
    (sym c.other-item.is) (c.arranged-other-items.ensures.over c.loop-other.other-index m c.loop-other-test.true)) in
    let apart : m ≡ c.opposite-implied.result → ⊥ = λ e. both_ways (int_eq m c.opposite-implied.result) (sym c.if-eq.ensures) (int_eq-same m c.opposite-implied.result e) in
    let down : 0 < falsified_at c.args.trail.now m =
    others_down (live_in c.args.clauses.now) c.args.trail.now c.args.lit c.opposite-implied.result m
    c.reason-id.result items c.requires.explained c.requires.falsified c.opposite-implied.ensures.value
    c.reason-id.ensures.value c.if-id-eq0.false c.arranged-other-items.ensures.same there apart in
    (less c.args.depth t c.decreases c.if-depth-eq0.false, (c.requires.vars, (c.requires.explained, (c.requires.marks, (over, (down, c.loop-other.invariant ∙ c.requires.room))))))

pub invariant_of-self-clause-judged_inside : goal.invariant_of-self-clause-judged_inside
invariant_of-self-clause-judged_inside t c = c.note-2.new.self.judged_inside

pub invariant_of-self-clause-redundant_inside : goal.invariant_of-self-clause-redundant_inside
invariant_of-self-clause-redundant_inside t c =
    let noted = c.note-2.new.self in
    let room : length noted.verdicts.items ≡ c.args.trail.now.vars + 1 = c.note-2.ensures ∙ c.loop-other.invariant ∙ c.requires.room in
    let here : variable c.args.lit < length noted.verdicts.items = omega (arith, room, c.requires.over) in
    subst (λ (xs : List ℤ). All (λ l. variable l < length noted.verdicts.items) xs) (sym c.push.ensures.items)
    (pushed_inside (length noted.verdicts.items) (is_ok c.push.result) noted.redundant.items c.args.lit
    noted.redundant_inside here)
