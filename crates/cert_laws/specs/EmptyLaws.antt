-- The test for the empty clause.
use Rattle.std.proofs.Common.{◌≡◌, ℤ, ◌||◌, Bool, true, false, List, [], ◌∷◌, Any, Contains, refl, sym, ap, subst, inl, inr, arith, get_or}
use Rattle.std.proofs.Math.Logic.{⊎_elim}
use Rattle.std.proofs.lemmas.Bool.{or_cases}
use Rattle.std.proofs.lemmas.Bool.Decides.{nat_tests}
use Rattle.std.proofs.lemmas.List.Folds.{Any-from_list_any, list_any-from_Any}
use Rattle.std.specs.List.{list_any}
use Rattle.sat_theory.specs.Formula.{Formula}
use Rattle.sat_theory.specs.Line.{Line, Add, Delete}
use Rattle.sat_theory.specs.Log.{AddsEmpty, HasEmpty}
use Rattle.lrat_check.specs.Checked.{Checked, is_empty, adds_empty, HasAccepted}
use Rattle.cert_theory.specs.SubproblemLines.{has_empty}

pub same_bool : (a b : Bool) → (a ≡ true → b ≡ true) → (b ≡ true → a ≡ true) → a ≡ b
same_bool true b forth back = sym (forth refl)
same_bool false true forth back = back refl
same_bool false false forth back = refl

empty_is : (lits : List ℤ) → is_empty lits ≡ true → lits ≡ []
empty_is [] yes_ = refl
empty_is (l ∷ ls) yes_ = absurd (grind (arith, nat_tests))

adds_is : (line : Line) → adds_empty line ≡ true → AddsEmpty line
adds_is (Add id lits hints) yes_ = empty_is lits yes_
adds_is (Delete id ids) yes_ = absurd (cc)

is_adds : (line : Line) → AddsEmpty line → adds_empty line ≡ true
is_adds (Add id lits hints) none = ap is_empty none
is_adds (Delete id ids) none = absurd none

any_as : {X : Type 0} (P Q : X → Type 0) (xs : List X) → ((x : X) → P x → Q x) → Any P xs → Any Q xs
any_as P Q xs weaker (k, x, within, at, holds) = (k, x, within, at, weaker x holds)

contained : (clauses : List (List ℤ)) → Any (λ (c : List ℤ). is_empty c ≡ true) clauses → Contains clauses []
contained clauses (k, c, within, at, empty) = (k, within, subst (λ (x : List ℤ). get_or clauses k x ≡ x) (empty_is c empty) at)

or_left : (a b : Bool) → a ≡ true → (a || b) ≡ true
or_left a b is = rw is refl

or_right : (a b : Bool) → b ≡ true → (a || b) ≡ true
or_right true b is = refl
or_right false b is = is

pub empty_has : (f : Formula) (log : List Line) → has_empty f log ≡ true → HasEmpty f log
unfolding has_empty
empty_has f log yes_ =
    ⊎_elim
    (λ there. inl (contained f.clauses (Any-from_list_any is_empty f.clauses there)))
    (λ added. inr (any_as (λ (l : Line). adds_empty l ≡ true) AddsEmpty log adds_is (Any-from_list_any adds_empty log added)))
    (or_cases (list_any is_empty f.clauses) (list_any adds_empty log) yes_)

pub has_is : (f : Formula) (log : List Line) → HasEmpty f log → has_empty f log ≡ true
unfolding has_empty
has_is f log has =
    ⊎_elim
    (λ (there : Contains f.clauses []). or_left (list_any is_empty f.clauses) (list_any adds_empty log) (list_any-from_Any is_empty f.clauses (there.0, [], there.1, there.2, refl)))
    (λ (added : Any AddsEmpty log). or_right (list_any is_empty f.clauses) (list_any adds_empty log)
    (list_any-from_Any adds_empty log (any_as AddsEmpty (λ (l : Line). adds_empty l ≡ true) log is_adds added)))
    has

-- so a checker's flag decides it
pub refuted_is : (f : Formula) (log : List Line) (c : Checked) → HasAccepted f log c → c.refuted ≡ has_empty f log
refuted_is f log c accepted = same_bool c.refuted (has_empty f log) (λ yes_. has_is f log (accepted.refuted.0 yes_)) (λ yes_. accepted.refuted.1 (empty_has f log yes_))
