-- Soundness: if a log refutes a formula, no assignment satisfies the formula.
use Rattle.std.specs.Prelude.{◌≡◌, ℕ, zero, suc, ◌-◌, ◌<◌, ◌⊎◌, ◌==◌, ℤ, pos, negsuc, Bool, true, false, if◌then◌else◌, List, [], ◌∷◌, length, Contains, Any, slice_get, Option, Some, None, refl}
use Rattle.std.specs.List.{list_any}
use Rattle.std.specs.Ordering.{int_eq}
use Rattle.std.proofs.Common.{sym, subst, arith, inl, inr}
use Rattle.std.proofs.Math.Logic.{⊎_elim}
use Rattle.std.proofs.lemmas.Bool.{not-true, or_cases, cases_Bool}
use Rattle.std.specs.Cmp.{signed_Decides}
use Rattle.std.proofs.lemmas.List.Elements.{All-contains}
use Rattle.std.proofs.lemmas.List.Folds.{Any-from_list_any, list_any-from_Any}
use Rattle.std.proofs.lemmas.Option.{slice_get_within, get_or_from_slice_get}
use Rattle.sat_theory.specs.Formula.{variable, opposite, IsClause, Formula, IsFormula, Assignment, literal_value, IsTrueClause, Satisfies}
use Rattle.sat_theory.specs.Line.{Line, Add, Delete}
use Rattle.sat_theory.specs.State.{State, by_id, start, is_listed, next}
use Rattle.sat_theory.specs.Holding.{among, with_literal, IsUnitOutside, HintsHold, AdditionHolds}
use Rattle.sat_theory.specs.Log.{EachLine, IsStep, AddsEmpty, Refutes}

-- a literal and its opposite have different values
opposite_value : (v : Assignment) (l : ℤ) → 0 < variable l → literal_value v l ≡ true → literal_value v (opposite l) ≡ false
opposite_value v (pos zero) one is = absurd (let none : 0 < 0 = one in omega arith)
opposite_value v (pos (suc n)) one is = rw is refl
opposite_value v (negsuc n) one is = not-true (v (suc n)) is

abbrev IsFalseSet : Assignment → (ℤ → Bool) → Type 0
IsFalseSet v set = (l : ℤ) → set l ≡ true → literal_value v l ≡ false

-- a member of the set with one more literal is that literal, or is in the set
with_literal_cases : (set : ℤ → Bool) (l m : ℤ) → with_literal set l m ≡ true → (m ≡ l) ⊎ (set m ≡ true)
with_literal_cases set l m is =
    ⊎_elim (λ (same : int_eq m l ≡ true). inl ((signed_Decides m l).0 same)) (λ (member : set m ≡ true). inr member) (or_cases (int_eq m l) (set m) is)

-- a bit isn't both true and false
not_both : {A : Type 0} (b : Bool) → b ≡ true → b ≡ false → A
not_both b is_true is_false = cc

-- if all literals of a true clause but one are false, that one is true
unit_value : (v : Assignment) (set : ℤ → Bool) (clause : List ℤ) (l : ℤ) → IsFalseSet v set → IsTrueClause v clause → IsUnitOutside set clause l → literal_value v l ≡ true
unfolding IsTrueClause
unit_value v set clause l false_set (k, m, within, at, value) unit =
    let P : ℤ → Type 0 = λ x. (x ≡ l) ⊎ (set x ≡ true) in
    ⊎_elim (λ (same : m ≡ l). subst (λ (x : ℤ). literal_value v x ≡ true) same value) (λ (member : set m ≡ true).
    not_both (literal_value v m) value (false_set m member)) (All-contains P clause m unit.others (k, within, at))

-- all live clauses are clauses, and are true
abbrev Models : Assignment → (ℕ → Option (List ℤ)) → Type 0
Models v live = (id : ℕ) (clause : List ℤ) → live id ≡ Some clause → IsClause clause × IsTrueClause v clause

-- If hints hold from a set, not all literals of the set are false.
hints_contradict : (v : Assignment) (live : ℕ → Option (List ℤ)) (hints : List ℕ) (set : ℤ → Bool) → Models v live → HintsHold live set hints → IsFalseSet v set → ⊥
unfolding HintsHold IsTrueClause
hints_contradict v live [] set models hold false_set = hold
hints_contradict v live (hint ∷ []) set models (clause, is, members) false_set =
    let is_true : IsTrueClause v clause = (models hint clause is).1 in
    let m : ℤ = is_true.1 in
    let member : set m ≡ true = All-contains (λ (x : ℤ). set x ≡ true) clause m members (is_true.0, is_true.2, is_true.3) in
    not_both (literal_value v m) is_true.4 (false_set m member)
hints_contradict v live (hint ∷ more ∷ hints) set models (clause, l, is, unit, hold) false_set =
    let found : IsClause clause × IsTrueClause v clause = models hint clause is in
    let value : literal_value v l ≡ true = unit_value v set clause l false_set found.1 unit in
    let one : 0 < variable l = All-contains (λ (x : ℤ). 0 < variable x) clause l found.0.literals unit.there in
    hints_contradict v live (more ∷ hints) (with_literal set (opposite l)) models hold
    (λ m member. ⊎_elim (λ (same : m ≡ opposite l). subst (λ (x : ℤ). literal_value v x ≡ false) (sym same)
    (opposite_value v l one value)) (λ (old : set m ≡ true). false_set m old)
    (with_literal_cases set (opposite l) m member))

-- a member of a list's set is in the list
pub Contains-from_among : (lits : List ℤ) (l : ℤ) → among lits l ≡ true → Contains lits l
Contains-from_among lits l is =
    let found : Any (λ (m : ℤ). int_eq l m ≡ true) lits = Any-from_list_any (λ (m : ℤ). int_eq l m) lits is in
    let same : l ≡ found.1 = (signed_Decides l found.1).0 found.4 in
    rw same (found.0, found.2, found.3)

-- and conversely
pub among-from_Contains : (lits : List ℤ) (l : ℤ) → Contains lits l → among lits l ≡ true
among-from_Contains lits l (k, within, at) =
    list_any-from_Any (λ (m : ℤ). int_eq l m) lits (k, l, within, at, (signed_Decides l l).1 refl)

-- if a clause has no true literal, all its literals are false
false_clause : (v : Assignment) (lits : List ℤ) → list_any (literal_value v) lits ≡ false → IsFalseSet v (among lits)
false_clause v lits none l member =
    ⊎_elim (λ (value : literal_value v l ≡ true). let there : Contains lits l = Contains-from_among lits l member in
    not_both (list_any (literal_value v) lits) (list_any-from_Any (literal_value v) lits (
      there.0,
      l,
      there.1,
      there.2,
      value,
    )) none) (λ (value : literal_value v l ≡ false). value) (cases_Bool (literal_value v l))

-- RUP is sound: an addition that holds is true under every assignment under which all live clauses are.
addition_true : (v : Assignment) (s : State) (id : ℕ) (lits : List ℤ) (hints : List ℕ) → Models v s.live → AdditionHolds s id lits hints → IsTrueClause v lits
unfolding IsTrueClause
addition_true v s id lits hints models holds =
    ⊎_elim (λ (some : list_any (literal_value v) lits ≡ true). Any-from_list_any (literal_value v) lits some)
    (λ (none : list_any (literal_value v) lits ≡ false).
    absurd (hints_contradict v s.live hints (among lits) models holds.hints_hold (false_clause v lits none)))
    (cases_Bool (list_any (literal_value v) lits))

-- the clause of one of two ids
chosen : {A : Type 0} (b : Bool) (x y z : A) → (if b then x else y) ≡ z → (x ≡ z) ⊎ (y ≡ z)
chosen true x y z is = inl is
chosen false x y z is = inr is

-- The live clauses stay true after a line that holds.
models_next : (v : Assignment) (s : State) (line : Line) → IsStep s line → Models v s.live → Models v (next s line).live
models_next v s (Add id lits hints) step models k clause is =
    ⊎_elim
    (λ (new : Some lits ≡ Some clause). let same : lits ≡ clause = cc in rw (← same) (step.is_line.clause, addition_true v s id lits hints models step.holds))
    (λ (old : s.live k ≡ Some clause). models k clause old)
    (chosen (k == id) (Some lits) (s.live k) (Some clause) is)
models_next v s (Delete id ids) step models k clause is =
    ⊎_elim
    (λ (gone : None ≡ Some clause). absurd (cc))
    (λ (old : s.live k ≡ Some clause). models k clause old)
    (chosen (is_listed ids k) None (s.live k) (Some clause) is)

empty_is_false : (v : Assignment) → IsTrueClause v [] → ⊥
unfolding IsTrueClause
empty_is_false v found = let within : found.0 < 0 = found.2 in omega arith

-- an element of a list is the first, or one of the others
Any-cons : {X : Type 0} (P : X → Type 0) (x : X) (xs : List X) → Any P (x ∷ xs) → P x ⊎ Any P xs
Any-cons P x xs (zero, y, within, at, holds) = inl (subst P (sym at) holds)
Any-cons P x xs (suc k, y, within, at, holds) = inr (k, y, (let h : suc k < suc (length xs) = within in omega arith), at, holds)

no_empty : (v : Assignment) (s : State) (lines : List Line) → EachLine IsStep s lines → Models v s.live → Any AddsEmpty lines → ⊥
unfolding EachLine
no_empty v s [] each models some = let within : some.0 < 0 = some.2 in omega arith
no_empty v s (Add id lits hints ∷ ls) each models some =
    ⊎_elim
    (λ (empty : lits ≡ []). empty_is_false v (subst (λ (c : List ℤ). IsTrueClause v c) empty (addition_true v s id lits hints models each.0.holds)))
    (λ (later : Any AddsEmpty ls). no_empty v (next s (Add id lits hints)) ls each.1 (models_next v s (Add id lits hints) each.0 models) later)
    (Any-cons AddsEmpty (Add id lits hints) ls some)
no_empty v s (Delete id ids ∷ ls) each models some =
    ⊎_elim
    (λ (none : ⊥). none)
    (λ (later : Any AddsEmpty ls). no_empty v (next s (Delete id ids)) ls each.1 (models_next v s (Delete id ids) each.0 models) later)
    (Any-cons AddsEmpty (Delete id ids) ls some)

-- by_id finds only clauses of the formula
pub by_id-Contains : (clauses : List (List ℤ)) (id : ℕ) (clause : List ℤ) → by_id clauses id ≡ Some clause → Contains clauses clause
by_id-Contains clauses id clause is =
    ⊎_elim
    (λ (none : None ≡ Some clause). absurd (cc))
    (λ (at : slice_get clauses (id - 1) ≡ Some clause). (id - 1, slice_get_within clauses (id - 1) clause at, get_or_from_slice_get clauses (id - 1) clause clause at))
    (chosen (id == 0) None (slice_get clauses (id - 1)) (Some clause) is)

-- Soundness of whole logs.
pub no_assignment : (f : Formula) (lines : List Line) (v : Assignment) → IsFormula f → Refutes f lines → Satisfies v f → ⊥
no_assignment f lines v is_formula refutes satisfies =
    ⊎_elim
    (λ (there : Contains f.clauses []). empty_is_false v (All-contains (IsTrueClause v) f.clauses [] satisfies there))
    (λ (added : Any AddsEmpty lines). no_empty v (start f) lines refutes.holds (λ id clause is.
    let there : Contains f.clauses clause = by_id-Contains f.clauses id clause is in (
      All-contains IsClause f.clauses clause is_formula.clauses there,
      All-contains (IsTrueClause v) f.clauses clause satisfies there,
    )) added)
    refutes.reaches
