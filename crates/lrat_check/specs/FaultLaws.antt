-- A line has no fault if and only if it holds.
use Rattle.std.specs.Prelude.{◌≡◌, ◌≢◌, ℕ, zero, suc, ◌<◌, ◌≤◌, ◌⊎◌, ◌==◌, ◌||◌, ℤ, Bool, true, false, cond, nat_le}
use Rattle.std.specs.Prelude.{nat_lt, List, [], ◌∷◌, length, Contains, All, AllPairs, IsSome, is_none, Option, Some}
use Rattle.std.specs.Prelude.{None, refl, get_or}
use Rattle.std.proofs.Common.{ap, sym, ◌∙◌, arith, inl, inr}
use Rattle.std.proofs.Math.Logic.{⊎_elim}
use Rattle.std.proofs.lemmas.Bool.{cases_Bool, eq-eqb, ne_eqb, ltb-false, le-ltb, leb-false, lt-leb}
use Rattle.std.proofs.lemmas.List.Elements.{All-nil, All-cons, All-head, All-tail}
use Rattle.std.proofs.lemmas.List.Kept.{AllPairs-cons}
use Rattle.sat_theory.specs.Formula.{variable, opposite, IsWithin}
use Rattle.sat_theory.specs.Line.{Line, Add, Delete}
use Rattle.sat_theory.specs.State.{State}
use Rattle.sat_theory.specs.Holding.{among, with_literal, IsUnitOutside, HintsHold, AdditionHolds, DeletionHolds, Holds}
use Rattle.lrat_check.specs.declared.error.CheckError.{CheckError}
use Rattle.lrat_check.specs.declared.error.CheckError.TheVariants.{UnknownDelete, IdNotGreater}
use Rattle.lrat_check.specs.Hints.{outside, fault_at, fault_in, hints_fault}
use Rattle.lrat_check.specs.Live.{AreClauses}
use Rattle.lrat_check.specs.Judging.{first_above, variables_then, addition_fault, no_ids, with_id, deletion_fault, line_fault}

-- ---- the literals of a clause outside a set

in_set : (set : ℤ → Bool) (x : ℤ) (xs : List ℤ) → set x ≡ true → outside set (x ∷ xs) ≡ outside set xs
in_set set x xs is = rw is refl

not_in_set : (set : ℤ → Bool) (x : ℤ) (xs : List ℤ) → set x ≡ false → outside set (x ∷ xs) ≡ x ∷ outside set xs
not_in_set set x xs is = rw is refl

none_outside : (set : ℤ → Bool) (clause : List ℤ) → outside set clause ≡ [] → All (λ m. set m ≡ true) clause
none_outside set [] none = All-nil (λ m. set m ≡ true)
none_outside set (x ∷ xs) none =
    ⊎_elim
    (λ (member : set x ≡ true). All-cons (λ m. set m ≡ true) x xs member (none_outside set xs (sym (in_set set x xs member) ∙ none)))
    (λ (out : set x ≡ false). let no_ : x ∷ outside set xs ≡ [] = sym (not_in_set set x xs out) ∙ none in absurd cc)
    (cases_Bool (set x))

all_inside : (set : ℤ → Bool) (clause : List ℤ) → All (λ m. set m ≡ true) clause → outside set clause ≡ []
all_inside set [] all = refl
all_inside set (x ∷ xs) all =
    in_set set x xs (All-head (λ m. set m ≡ true) x xs all) ∙ all_inside set xs (All-tail (λ m. set m ≡ true) x xs all)

abbrev IsOther : (ℤ → Bool) → ℤ → ℤ → Type 0
IsOther set l m = (m ≡ l) ⊎ (set m ≡ true)

all_others : (set : ℤ → Bool) (l : ℤ) (clause : List ℤ) → All (λ m. set m ≡ true) clause → All (IsOther set l) clause
all_others set l clause all = λ k d within. inr (all k d within)

unit_outside : (set : ℤ → Bool) (clause : List ℤ) (l : ℤ) → outside set clause ≡ l ∷ [] → IsUnitOutside set clause l
unit_outside set [] l one = absurd cc
unit_outside set (x ∷ xs) l one =
    ⊎_elim
    (λ (member : set x ≡ true).
    let rest : IsUnitOutside set xs l = unit_outside set xs l (sym (in_set set x xs member) ∙ one) in
    let moved : Contains (x ∷ xs) l = (suc rest.there.0, (omega (arith, rest.there.1)), rest.there.2) in
    let r : IsUnitOutside set (x ∷ xs) l = record { there = moved; outside = rest.outside; others = All-cons (IsOther set l) x xs (inr member) rest.others } in r)
    (λ (out : set x ≡ false).
    let both : x ∷ outside set xs ≡ l ∷ [] = sym (not_in_set set x xs out) ∙ one in
    let same : x ≡ l = cc in
    let none : outside set xs ≡ [] = cc in
    let first : Contains (x ∷ xs) l = (0, omega arith, same) in
    let r : IsUnitOutside set (x ∷ xs) l = record {
      there = first;
      outside = ap set (sym same) ∙ out;
      others = All-cons (IsOther set l) x xs (inl same) (all_others set l xs (none_outside set xs none));
    } in
    r)
    (cases_Bool (set x))

abbrev AreDifferent : List ℤ → Type 0
AreDifferent clause = AllPairs (λ a b. variable a ≢ variable b) clause

-- a member that isn't the first element is among the others
in_others : (x l : ℤ) (xs : List ℤ) → (x ≡ l → ⊥) → Contains (x ∷ xs) l → Contains xs l
in_others x l xs apart (zero, within, at) = absurd (apart at)
in_others x l xs apart (suc k, within, at) = (k, (let h : suc k < suc (length xs) = within in omega arith), at)

not_both : {A : Type 0} (b : Bool) → b ≡ true → b ≡ false → A
not_both b is_true is_false = cc

different_tail : (x : ℤ) (xs : List ℤ) → AreDifferent (x ∷ xs) → AreDifferent xs
different_tail x xs differ = λ i j d low within. differ (suc i) (suc j) d (omega (arith, low)) (omega (arith, within))

one_outside : (set : ℤ → Bool) (clause : List ℤ) (l : ℤ) → AreDifferent clause → IsUnitOutside set clause l → outside set clause ≡ l ∷ []
one_outside set [] l differ unit = absurd (let within : unit.there.0 < 0 = unit.there.1 in omega arith)
one_outside set (x ∷ xs) l differ unit =
    ⊎_elim
    (λ (member : set x ≡ true).
    let apart : x ≡ l → ⊥ = λ same. not_both (set l) (ap set (sym same) ∙ member) unit.outside in
    let rest : IsUnitOutside set xs l = record { there = in_others x l xs apart unit.there; outside = unit.outside; others = All-tail (IsOther set l) x xs unit.others } in
    in_set set x xs member ∙ one_outside set xs l (different_tail x xs differ) rest)
    (λ (out : set x ≡ false).
    let same : x ≡ l = ⊎_elim (λ (e : x ≡ l). e) (λ (member : set x ≡ true). not_both (set x) member out) (All-head (IsOther set l) x xs unit.others) in
    let members : All (λ m. set m ≡ true) xs = λ k d within.
    ⊎_elim
    (λ (e : get_or xs k d ≡ l). absurd (differ 0 (suc k) d (omega arith) (omega (arith, within)) (ap variable (same ∙ sym e))))
    (λ (member : set (get_or xs k d) ≡ true). member)
    (unit.others (suc k) d (omega (arith, within))) in
    not_in_set set x xs out ∙ ap (λ (ys : List ℤ). x ∷ ys) (all_inside set xs members) ∙ ap (λ (y : ℤ). y ∷ []) same)
    (cases_Bool (set x))

-- ---- hints

abbrev Next : Type 0
Next = (ℤ → Bool) → Option CheckError

-- Without a fault, the clause of a hint has no literal outside and the hint is the last; or it has one literal
-- outside, and the other hints have no fault.
record NoFault (set : ℤ → Bool) (hint : ℕ) (hs : List ℕ) (next : Next) (clause : List ℤ) : Type 0 where
  cases : ((hs ≡ []) × All (λ m. set m ≡ true) clause) ⊎ ((l : ℤ) × IsUnitOutside set clause l × (next (with_literal set (opposite l)) ≡ None))

no_fault : (set : ℤ → Bool) (hint : ℕ) (hs : List ℕ) (next : Next) (clause : List ℤ) (out : List ℤ) → outside set clause ≡ out → fault_at hint hs set next out ≡ None → NoFault set hint hs next clause
no_fault set hint [] next clause [] is none = record { cases = inl (refl, none_outside set clause is) }
no_fault set hint (h ∷ hs) next clause [] is none = absurd cc
no_fault set hint hs next clause (l ∷ []) is none = record { cases = inr (l, unit_outside set clause l is, none) }
no_fault set hint hs next clause (l ∷ m ∷ ls) is none = absurd cc

-- the clause of a hint
named : (hint : ℕ) (hs : List ℕ) (set : ℤ → Bool) (next : Next) (found : Option (List ℤ)) →
    fault_in hint hs set next found ≡ None → (clause : List ℤ) × (found ≡ Some clause) × NoFault set hint hs next clause
named hint hs set next None none = absurd cc
named hint hs set next (Some clause) none = (clause, refl, no_fault set hint hs next clause (outside set clause) refl none)

goes_on : (live : ℕ → Option (List ℤ)) (set : ℤ → Bool) (hint : ℕ) (hs : List ℕ) (clause : List ℤ) (l : ℤ) →
    live hint ≡ Some clause → IsUnitOutside set clause l → HintsHold live (with_literal set (opposite l)) hs →
    HintsHold live set (hint ∷ hs)
unfolding HintsHold
goes_on live set hint [] clause l is unit holds = absurd holds
goes_on live set hint (h ∷ hs) clause l is unit holds = (clause, l, is, unit, holds)

ends : (live : ℕ → Option (List ℤ)) (set : ℤ → Bool) (hint : ℕ) (hs : List ℕ) (clause : List ℤ) → live hint ≡ Some clause → hs ≡ [] → All (λ m. set m ≡ true) clause → HintsHold live set (hint ∷ hs)
unfolding HintsHold
ends live set hint [] clause is last all = (clause, is, all)
ends live set hint (h ∷ hs) clause is last all = absurd cc

-- Hints without a fault hold.
pub hints_hold : (live : ℕ → Option (List ℤ)) (hints : List ℕ) (set : ℤ → Bool) → hints_fault live set hints ≡ None → HintsHold live set hints
unfolding hints_fault
hints_hold live [] set none = absurd cc
hints_hold live (hint ∷ hs) set none =
    let found = named hint hs set (λ s. hints_fault live s hs) (live hint) none in
    ⊎_elim
    (λ (last : (hs ≡ []) × All (λ m. set m ≡ true) found.0). ends live set hint hs found.0 found.1 last.0 last.1)
    (λ (more : (l : ℤ) × IsUnitOutside set found.0 l × (hints_fault live (with_literal set (opposite l)) hs ≡ None)).
    goes_on live set hint hs found.0 more.0 found.1 more.1 (hints_hold live hs (with_literal set (opposite more.0)) more.2))
    found.2.cases

-- Hints that hold have no fault.
pub hints_without_fault : (live : ℕ → Option (List ℤ)) (hints : List ℕ) (set : ℤ → Bool) → AreClauses live → HintsHold live set hints → hints_fault live set hints ≡ None
unfolding hints_fault HintsHold
hints_without_fault live [] set clauses holds = absurd holds
hints_without_fault live (hint ∷ []) set clauses (clause, is, all) =
    ap (fault_in hint [] set (λ s. hints_fault live s [])) is ∙ ap (fault_at hint [] set (λ s. hints_fault live s [])) (all_inside set clause all)
hints_without_fault live (hint ∷ h ∷ hs) set clauses (clause, l, is, unit, holds) =
    ap (fault_in hint (h ∷ hs) set (λ s. hints_fault live s (h ∷ hs))) is
    ∙ ap (fault_at hint (h ∷ hs) set (λ s. hints_fault live s (h ∷ hs))) (one_outside set clause l (clauses.each hint clause is).differ unit)
    ∙ hints_without_fault live (h ∷ hs) (with_literal set (opposite l)) clauses holds

-- ---- additions

pub within_from_none : (vars : ℕ) (lits : List ℤ) → first_above vars lits ≡ None → IsWithin vars lits
within_from_none vars [] none = All-nil (λ (l : ℤ). variable l ≤ vars)
within_from_none vars (l ∷ ls) none =
    ⊎_elim
    (λ (above : nat_lt vars (variable l) ≡ true). let no_ : Some (variable l) ≡ None = sym (ap (λ (b : Bool). cond b (Some (variable l)) (first_above vars ls)) above) ∙ none in absurd cc)
    (λ (low : nat_lt vars (variable l) ≡ false). All-cons (λ (m : ℤ). variable m ≤ vars) l ls
    (ltb-false vars (variable l) low) (within_from_none vars ls
    (sym (ap (λ (b : Bool). cond b (Some (variable l)) (first_above vars ls)) low) ∙ none)))
    (cases_Bool (nat_lt vars (variable l)))

none_from_within : (vars : ℕ) (lits : List ℤ) → IsWithin vars lits → first_above vars lits ≡ None
none_from_within vars [] within = refl
none_from_within vars (l ∷ ls) within =
    let low : variable l ≤ vars = All-head (λ (m : ℤ). variable m ≤ vars) l ls within in
    ap (λ (b : Bool). cond b (Some (variable l)) (first_above vars ls)) (le-ltb vars (variable l) low) ∙ none_from_within vars ls (All-tail (λ (m : ℤ). variable m ≤ vars) l ls within)

variables_none : (found : Option ℕ) (next : Option CheckError) → variables_then found next ≡ None → (found ≡ None) × (next ≡ None)
variables_none None next none = (refl, none)
variables_none (Some v) next none = absurd cc

addition_holds : (s : State) (id : ℕ) (lits : List ℤ) (hints : List ℕ) → addition_fault s id lits hints ≡ None → AdditionHolds s id lits hints
addition_holds s id lits hints none =
    ⊎_elim
    (λ (not_greater : nat_le id s.greatest ≡ true). let no_ : Some (IdNotGreater id) ≡ None =
    sym (ap (λ (b : Bool). cond b (Some (IdNotGreater id))
    (variables_then (first_above s.vars lits) (hints_fault s.live (among lits) hints))) not_greater) ∙ none in
    absurd cc)
    (λ (greater : nat_le id s.greatest ≡ false).
    let rest = variables_none (first_above s.vars lits) (hints_fault s.live (among lits) hints)
    (sym (ap (λ (b : Bool). cond b (Some (IdNotGreater id))
    (variables_then (first_above s.vars lits) (hints_fault s.live (among lits) hints))) greater) ∙ none) in
    let r : AdditionHolds s id lits hints = record {
      greater = leb-false id s.greatest greater;
      variables = within_from_none s.vars lits rest.0;
      hints_hold = hints_hold s.live hints (among lits) rest.1;
    } in
    r)
    (cases_Bool (nat_le id s.greatest))

addition_without_fault : (s : State) (id : ℕ) (lits : List ℤ) (hints : List ℕ) → AreClauses s.live → AdditionHolds s id lits hints → addition_fault s id lits hints ≡ None
addition_without_fault s id lits hints clauses holds =
    ap (λ (b : Bool). cond b (Some (IdNotGreater id)) (variables_then (first_above s.vars lits) (hints_fault s.live (among lits) hints))) (lt-leb id s.greatest holds.greater)
    ∙ ap (λ (o : Option ℕ). variables_then o (hints_fault s.live (among lits) hints)) (none_from_within s.vars lits holds.variables)
    ∙ hints_without_fault s.live hints (among lits) clauses holds.hints_hold

-- ---- deletions

-- ids that are live, different, and not seen before
record AreFresh (live : ℕ → Option (List ℤ)) (seen : ℕ → Bool) (ids : List ℕ) : Type 0 where
  holds : DeletionHolds live ids
  unseen : All (λ k. seen k ≡ false) ids

or_false : (a b : Bool) → (a || b) ≡ false → (a ≡ false) × (b ≡ false)
or_false true b is = absurd cc
or_false false b is = (refl, is)

some_there : (o : Option (List ℤ)) → is_none o ≡ false → IsSome o
some_there None is = absurd cc
some_there (Some c) is = refl

none_there : (o : Option (List ℤ)) → IsSome o → is_none o ≡ false
none_there None is = absurd cc
none_there (Some c) is = refl

no_deletion : (live : ℕ → Option (List ℤ)) (seen : ℕ → Bool) → AreFresh live seen []
no_deletion live seen = record {
  holds = record { all_live = All-nil (λ (k : ℕ). IsSome (live k)); differ = λ i j d low (within : j < 0). absurd (omega arith) };
  unseen = All-nil (λ (k : ℕ). seen k ≡ false);
}

fresh_more : (live : ℕ → Option (List ℤ)) (seen : ℕ → Bool) (id : ℕ) (ids : List ℕ) → IsSome (live id) → seen id ≡ false → AreFresh live (with_id seen id) ids → AreFresh live seen (id ∷ ids)
fresh_more live seen id ids there new rest = record {
  holds = record {
    all_live = All-cons (λ (k : ℕ). IsSome (live k)) id ids there rest.holds.all_live;
    differ = AllPairs-cons (λ (a b : ℕ). a ≢ b) id ids (λ k d within same.
        not_both (get_or ids k d == id) (eq-eqb (get_or ids k d) id (sym same))
        (or_false (get_or ids k d == id) (seen (get_or ids k d)) (rest.unseen k d within)).0) rest.holds.differ;
  };
  unseen = All-cons (λ (k : ℕ). seen k ≡ false) id ids new (λ k d within. (or_false (get_or ids k d == id) (seen (get_or ids k d)) (rest.unseen k d within)).1);
}

fresh_rest : (live : ℕ → Option (List ℤ)) (seen : ℕ → Bool) (id : ℕ) (ids : List ℕ) → AreFresh live seen (id ∷ ids) → AreFresh live (with_id seen id) ids
fresh_rest live seen id ids fresh = record {
  holds = record {
    all_live = All-tail (λ (k : ℕ). IsSome (live k)) id ids fresh.holds.all_live;
    differ = λ i j d low within. fresh.holds.differ (suc i) (suc j) d (omega (arith, low)) (omega (arith, within));
  };
  unseen = λ k d within.
      let apart : (get_or ids k d == id) ≡ false = ne_eqb (get_or ids k d) id (λ same. fresh.holds.differ 0 (suc k) d (omega arith) (omega (arith, within)) (sym same)) in
      let old : seen (get_or ids k d) ≡ false = fresh.unseen (suc k) d (omega (arith, within)) in
      ap (λ (b : Bool). b || seen (get_or ids k d)) apart ∙ old;
}

deletion_fresh : (live : ℕ → Option (List ℤ)) (ids : List ℕ) (seen : ℕ → Bool) → deletion_fault live seen ids ≡ None → AreFresh live seen ids
unfolding deletion_fault
deletion_fresh live [] seen none = no_deletion live seen
deletion_fresh live (id ∷ ids) seen none =
    ⊎_elim
    (λ (bad : (is_none (live id) || seen id) ≡ true). let no_ : Some (UnknownDelete id) ≡ None =
    sym (ap (λ (b : Bool). cond b (Some (UnknownDelete id)) (deletion_fault live (with_id seen id) ids)) bad)
    ∙ none in absurd cc)
    (λ (good : (is_none (live id) || seen id) ≡ false).
    let parts = or_false (is_none (live id)) (seen id) good in
    fresh_more live seen id ids (some_there (live id) parts.0) parts.1
    (deletion_fresh live ids (with_id seen id)
    (sym (ap (λ (b : Bool). cond b (Some (UnknownDelete id)) (deletion_fault live (with_id seen id) ids)) good)
    ∙ none)))
    (cases_Bool (is_none (live id) || seen id))

fresh_without_fault : (live : ℕ → Option (List ℤ)) (ids : List ℕ) (seen : ℕ → Bool) → AreFresh live seen ids → deletion_fault live seen ids ≡ None
unfolding deletion_fault
fresh_without_fault live [] seen fresh = refl
fresh_without_fault live (id ∷ ids) seen fresh =
    let there : is_none (live id) ≡ false = none_there (live id) (All-head (λ (k : ℕ). IsSome (live k)) id ids fresh.holds.all_live) in
    let new : seen id ≡ false = All-head (λ (k : ℕ). seen k ≡ false) id ids fresh.unseen in
    ap (λ (b : Bool). cond (b || seen id) (Some (UnknownDelete id)) (deletion_fault live (with_id seen id) ids)) there
    ∙ ap (λ (b : Bool). cond b (Some (UnknownDelete id)) (deletion_fault live (with_id seen id) ids)) new
    ∙ fresh_without_fault live ids (with_id seen id) (fresh_rest live seen id ids fresh)

-- ---- lines

-- A line without a fault holds.
pub line_holds : (s : State) (line : Line) → line_fault s line ≡ None → Holds s line
line_holds s (Add id lits hints) none = addition_holds s id lits hints none
line_holds s (Delete id ids) none = (deletion_fresh s.live ids no_ids none).holds

-- A line that holds has no fault.
pub line_without_fault : (s : State) (line : Line) → AreClauses s.live → Holds s line → line_fault s line ≡ None
line_without_fault s (Add id lits hints) clauses holds = addition_without_fault s id lits hints clauses holds
line_without_fault s (Delete id ids) clauses holds = fresh_without_fault s.live ids no_ids (record { holds = holds; unseen = λ k d within. refl })
