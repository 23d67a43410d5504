-- What the ends of a search show of the formula.
use Rattle.std.proofs.Common.{◌≡◌, ℕ, suc, ◌+◌, ◌*◌, ◌<◌, ◌≤◌, ℤ, Bool, true, List, [], ◌∷◌, length, slice_index_or, Contains, All, Any, subst, sym, ap, ◌∙◌, arith, inl, refl}
use Rattle.std.proofs.Math.Logic.{⊎_elim}
use Rattle.std.proofs.lemmas.Bool.{cases_lt}
use Rattle.std.proofs.lemmas.List.Elements.{All-contains, All-cons, All-nil}
use Rattle.sat_theory.specs.Formula.{variable, opposite, Formula, IsFormula, IsClause, IsWithin, bits_of, literal_value, IsTrueClause, Satisfies}
use Rattle.sat_theory.specs.Line.{Line, Add, Delete}
use Rattle.sat_theory.specs.State.{State, start}
use Rattle.sat_theory.specs.Log.{EachLine, IsStep, AddsEmpty, additions, Refutes, ReachesBudget, BoundsLiveAdditions, SparesFormula, after, added_ids, live_additions}
use Rattle.sat_theory.specs.FewAdditions.{AddsSome}
use Rattle.cdcl_theory.specs.Propagation.{AllSettled, IsSettled}
use Rattle.cdcl_theory.specs.Trails.{TrailState, falsified_at}
use Rattle.clause_db.specs.Stored.{Stored, live_in, IsStored}
use Rattle.trail_core.specs.Values.{Follows, HaveValues}
use Rattle.cdcl_core.specs.declared.search.Search.{Search}
use Rattle.cdcl_core.specs.Searching.{IsLog, AreUnsubsumed, IsCovered, IsLogged}
use Rattle.cdcl_core.proofs.Formulas.{named}
use Rattle.std.specs.Prelude.{Result, Ok, Err, IfOk}
use Rattle.sat_solve.specs.declared.solver.Solved.{Solved}
use Rattle.sat_solve.specs.declared.solver.Solved.TheVariants.{Sat, Unsat, Open}
use Rattle.sat_solve.specs.Answering.{IfOpen, most_past}
use Rattle.sat_theory.specs.Limits.{slack}

no_lines : (s : State) → EachLine IsStep s []
unfolding EachLine
no_lines s = tt

-- the empty clause is in the formula
pub refuted_at_once : (f : Formula) (lines : List Line) → lines ≡ [] → Contains f.clauses [] → Refutes f lines
refuted_at_once f lines none there = rw none (record { holds = no_lines (start f); reaches = inl there })

-- a list has a literal that isn't false, if not all are
left_over : (positions : ℤ → ℕ) (lits : List ℤ) → (All (λ l. 0 < positions l) lits → ⊥) → (k : ℕ) × (m : ℤ) × (k < length lits) × (slice_index_or lits k m ≡ m) × (positions m ≡ 0)
left_over positions [] none = absurd (none (λ k d (low : k < 0). absurd (omega arith)))
left_over positions (l ∷ lits) none =
    ⊎_elim
    (λ (down : 0 < positions l).
    let x = left_over positions lits (λ all. none (All-cons (λ m. 0 < positions m) l lits down all)) in
    (suc x.0, x.1, (let h : suc x.0 < suc (length lits) = omega (arith, x.2) in h), x.3, x.4))
    (λ (up : positions l ≤ 0). (0, l, (let h : 0 < suc (length lits) = omega arith in h), refl, omega arith))
    (cases_lt 0 (positions l))

-- a settled clause is true if all variables have a value
settled_true : (t : TrailState) (bits : List Bool) (lits : List ℤ) → Follows t bits → HaveValues t (1 + t.vars) →
    IsClause lits → IsWithin t.vars lits → IsSettled (falsified_at t) lits → IsTrueClause (bits_of bits) lits
unfolding IsTrueClause
settled_true t bits lits follows values clause within settled =
    let x = left_over (falsified_at t) lits settled.not_false in
    let there : Contains lits x.1 = (x.0, x.2, x.3) in
    let some : 0 < variable x.1 = All-contains (λ l. 0 < variable l) lits x.1 clause.literals there in
    let small : variable x.1 ≤ t.vars = All-contains (λ l. variable l ≤ t.vars) lits x.1 within there in
    let up : falsified_at t x.1 ≡ 0 = x.4 in
    ⊎_elim
    (λ (down : 0 < falsified_at t x.1). absurd (omega arith))
    (λ (true_now : 0 < falsified_at t (opposite x.1)). (x.0, x.1, x.2, x.3, follows.values x.1 (some, small) true_now))
    (values x.1 some (omega arith))

more_true : (v : ℕ → Bool) (cover clause : List ℤ) → All (Contains clause) cover → IsTrueClause v cover → IsTrueClause v clause
unfolding IsTrueClause
more_true v cover clause inside (k, d, low, at, is) =
    let there : Contains clause (slice_index_or cover k d) = inside k d low in
    (there.0, slice_index_or cover k d, there.1, there.2, subst (λ (m : ℤ). literal_value v m ≡ true) (sym at) is)

-- With a value for each variable and all clauses settled, the values satisfy the formula, each clause
-- of which is covered by one of them.
pub values_satisfy : (f : Formula) (s : Search) (bits : List Bool) → IsFormula f → IsStored s.clauses →
    s.trail.vars ≡ f.vars → IsLogged f s → HaveValues s.trail (1 + s.trail.vars) →
    AllSettled (live_in s.clauses) (falsified_at s.trail) → Follows s.trail bits → Satisfies (bits_of bits) f
values_satisfy f s bits formula stored vars logged values settled follows = λ k d low.
    let clause : List ℤ = slice_index_or f.clauses k d in
    let cover : IsCovered s clause = logged.covered (suc k) clause (named f.clauses k d low) in
    let is_clause : IsClause cover.cover = stored.clauses cover.by cover.cover cover.is_live in
    let within : IsWithin s.trail.vars cover.cover = subst (λ (n : ℕ). IsWithin n cover.cover) (logged.log.vars ∙ sym vars) (stored.variables cover.by cover.cover cover.is_live) in
    more_true (bits_of bits) cover.cover clause cover.inside (settled_true s.trail bits cover.cover follows values is_clause within (settled.each cover.by cover.cover cover.is_live))

not_both : (line : Line) → AddsSome line → AddsEmpty line → ⊥
not_both (Add id lits hints) some empty = (let e : length lits ≡ 0 = ap length empty in let h : 0 < length lits = some in omega arith)
not_both (Delete id ids) some empty = empty

-- A log of at least `budget` additions reaches the budget.
pub log_spent : (f : Formula) (s : Stored) (lines : List Line) (deleted least budget : ℕ) →
    IsLog f s lines deleted least → AreUnsubsumed f lines → (Contains f.clauses [] → ⊥) → budget ≤ additions lines →
    ReachesBudget f lines budget
log_spent f s lines deleted least budget log new none enough = record {
  holds = log.holds;
  open_yet = λ has. ⊎_elim (λ (there : Contains f.clauses []). none there) (λ (added : Any AddsEmpty lines).
      not_both added.1 (All-contains AddsSome lines added.1 new.some (added.0, added.2, added.3)) added.4) has;
  enough = enough;
  fresh = new.fresh;
}

nothing : (f : Formula) → 4 * live_additions (after (start f) []) [] ≤ 3 * additions [] + 4 * f.vars + 4 * slack
unfolding added_ids
nothing f = (let none : live_additions (after (start f) []) [] ≡ 0 = refl in omega (arith, none))

-- Without lines there is nothing to delete.
pub live_bounded_at_once : (f : Formula) (lines : List Line) → lines ≡ [] → BoundsLiveAdditions f lines
live_bounded_at_once f lines none = rw none (record { spares = All-nil (SparesFormula f); few = nothing f })

none_few : (f : Formula) (n : ℕ) → additions [] < n + most_past f
unfolding added_ids
none_few f n = (let none : additions [] ≡ 0 = refl in omega (arith, none))

-- They are fewer than any bound.
pub few_at_once : (f : Formula) (lines : List Line) (n : ℕ) → lines ≡ [] → additions lines < n + most_past f
few_at_once f lines n none = rw none (none_few f n)

-- A log that reaches a budget reaches smaller ones.
pub spent_less : (f : Formula) (lines : List Line) (less more : ℕ) → less ≤ more → ReachesBudget f lines more → ReachesBudget f lines less
spent_less f lines less more low spent = record {
  holds = spent.holds;
  open_yet = spent.open_yet;
  enough = omega (arith, low, spent.enough);
  fresh = spent.fresh;
}

if_open_less : (f : Formula) (s : Solved) (less more : ℕ) → less ≤ more → IfOpen s (λ lines. ReachesBudget f lines more) → IfOpen s (λ lines. ReachesBudget f lines less)
if_open_less f (Sat bits) less more low spent = tt
if_open_less f (Unsat lines) less more low spent = tt
if_open_less f (Open lines) less more low spent = spent_less f lines less more low spent

pub open_less : {E : Type 0} (f : Formula) (r : Result Solved E) (less more : ℕ) → less ≤ more →
    IfOk r (λ s. IfOpen s (λ lines. ReachesBudget f lines more)) →
    IfOk r (λ s. IfOpen s (λ lines. ReachesBudget f lines less))
open_less f (Ok s) less more low spent = if_open_less f s less more low spent
open_less f (Err e) less more low spent = tt
