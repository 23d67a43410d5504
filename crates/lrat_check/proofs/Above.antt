-- If no variable is above vars, all are variables of the formula.
use Rattle.std.proofs.Common.{◌≡◌, ℕ, ◌≤◌, ℤ, true, false, nat_lt, List, [], ◌∷◌, Some, None, cond}
use Rattle.std.proofs.Math.Logic.{⊎_elim}
use Rattle.std.proofs.lemmas.Bool.{cases_Bool, ltb-false}
use Rattle.std.proofs.lemmas.List.Elements.{All-nil, All-cons}
use Rattle.sat_theory.specs.Formula.{variable, IsWithin}
use Rattle.lrat_check.specs.Judging.{first_above}

some_is_none : (v : ℕ) → Some v ≡ None → ⊥
some_is_none v is = cc

pub none_above : (vars : ℕ) (lits : List ℤ) → first_above vars lits ≡ None → IsWithin vars lits
none_above vars [] none = All-nil (λ (l : ℤ). variable l ≤ vars)
none_above vars (l ∷ ls) none =
    ⊎_elim
    (λ (above : nat_lt vars (variable l) ≡ true). let found : cond (nat_lt vars (variable l)) (Some (variable l))
    (first_above vars ls) ≡ None = none in absurd (some_is_none (variable l) (rw above at found)))
    (λ (within : nat_lt vars (variable l) ≡ false). let found : cond (nat_lt vars (variable l)) (Some (variable l))
    (first_above vars ls) ≡ None = none in All-cons (λ (m : ℤ). variable m ≤ vars) l ls
    (ltb-false vars (variable l) within) (none_above vars ls (rw within at found)))
    (cases_Bool (nat_lt vars (variable l)))
