-- What the checker's result says about the line and the log.
use Rattle.std.proofs.Common.{◌≡◌, zero, suc, ◌<◌, ◌||◌, ◌⊎◌, Bool, true, false, List, [], ◌∷◌, ◌++◌, length, Any}
use Rattle.std.proofs.Common.{Option, None, Result, Ok, Err, OnOk, IsOkUnless, refl, sym, ap, ◌∙◌, subst, inl, inr}
use Rattle.std.proofs.Common.{arith}
use Rattle.std.proofs.Math.Logic.{⊎_elim}
use Rattle.std.proofs.lemmas.Bool.{or_cases}
use Rattle.std.proofs.lemmas.List.Quantifiers.{Any-push}
use Rattle.sat_theory.specs.Formula.{Formula}
use Rattle.sat_theory.specs.Line.{Line, Add, Delete, IsLine}
use Rattle.sat_theory.specs.State.{State, start, next}
use Rattle.sat_theory.specs.Holding.{Holds}
use Rattle.sat_theory.specs.Log.{IsStep, AddsEmpty, HasEmpty}
use Rattle.sat_theory.specs.LogLaws.{after-push, EachLine-push}
use Rattle.lrat_check.specs.declared.error.CheckError.{CheckError}
use Rattle.lrat_check.specs.declared.error.CheckError.TheVariants.{UnknownId, NotUnit, NoConflict, UnknownDelete, IdNotGreater, UnknownVariable, Memory}
use Rattle.lrat_check.specs.Live.{AreClauses}
use Rattle.lrat_check.specs.Judging.{line_fault}
use Rattle.lrat_check.specs.Seen.{Refuses, Judges}
use Rattle.lrat_check.specs.FaultLaws.{line_holds, line_without_fault}
use Rattle.lrat_check.specs.Checked.{Checked, state_of, is_empty, adds_empty, HasAccepted}
use Rattle.lrat_check.proofs.Starting.{empty_is}

-- a line that is accepted holds
pub taken_holds : (r : Result (Unit {0}) CheckError) (s : State) (line : Line) → Judges r (line_fault s line) → OnOk r (Holds s line)
taken_holds (Ok done) s line judged = line_holds s line judged
taken_holds (Err e) s line judged = tt

-- a line that holds is accepted, unless memory runs out
only_memory : (e : CheckError) (fault : Option CheckError) → fault ≡ None → Refuses e fault → e ≡ Memory
only_memory (UnknownId id) fault none is = absurd (cc)
only_memory (NotUnit id) fault none is = absurd (cc)
only_memory NoConflict fault none is = absurd (cc)
only_memory (UnknownDelete id) fault none is = absurd (cc)
only_memory (IdNotGreater id) fault none is = absurd (cc)
only_memory (UnknownVariable v) fault none is = absurd (cc)
only_memory Memory fault none is = refl

pub holding_taken : (r : Result (Unit {0}) CheckError) (s : State) (line : Line) → AreClauses s.live → Judges r (line_fault s line) → Holds s line → IsOkUnless r Memory
holding_taken (Ok done) s line clauses judged holds = tt
holding_taken (Err e) s line clauses judged holds = only_memory e (line_fault s line) (line_without_fault s line clauses holds) judged

-- whether a line adds the empty clause, as a test
adds_is : (line : Line) → adds_empty line ≡ true → AddsEmpty line
adds_is (Add id lits hints) yes_ = empty_is lits yes_
adds_is (Delete id ids) yes_ = absurd (cc)

is_adds : (line : Line) → AddsEmpty line → adds_empty line ≡ true
is_adds (Add id lits hints) none = ap is_empty none
is_adds (Delete id ids) none = absurd none

any_prefix : {X : Type 0} (P : X → Type 0) (x : X) (xs : List X) → Any P xs → Any P (x ∷ xs)
any_prefix P x xs (k, y, within, at, holds) = (suc k, y, omega (arith, within), at, holds)

any_first : {X : Type 0} (P : X → Type 0) (x : X) (xs : List X) → P x → Any P (x ∷ xs)
any_first P x xs holds = (0, x, omega arith, refl, holds)

any_cases : {X : Type 0} (P : X → Type 0) (x : X) (xs : List X) → Any P (x ∷ xs) → P x ⊎ Any P xs
any_cases P x xs (zero, y, within, at, holds) = inl (subst P (sym at) holds)
any_cases P x xs (suc k, y, within, at, holds) = inr (k, y, (let h : suc k < suc (length xs) = within in omega arith), at, holds)

any_more : {X : Type 0} (P : X → Type 0) (xs : List X) (y : X) → Any P xs → Any P (xs ++ y ∷ [])
any_more P [] y some = absurd (let within : some.0 < 0 = some.2 in omega arith)
any_more P (x ∷ xs) y some = ⊎_elim (λ (first : P x). any_first P x (xs ++ y ∷ []) first) (λ (later : Any P xs). any_prefix P x (xs ++ y ∷ []) (any_more P xs y later)) (any_cases P x xs some)

any_last : {X : Type 0} (P : X → Type 0) (xs : List X) (y : X) → Any P (xs ++ y ∷ []) → Any P xs ⊎ P y
any_last P [] y some = ⊎_elim (λ (last : P y). inr last) (λ (none : Any P []). absurd (let within : none.0 < 0 = none.2 in omega arith)) (any_cases P y [] some)
any_last P (x ∷ xs) y some =
    ⊎_elim
    (λ (first : P x). inl (any_first P x xs first))
    (λ (later : Any P (xs ++ y ∷ [])). ⊎_elim (λ (prefix : Any P xs). inl (any_prefix P x xs prefix)) (λ (last : P y). inr last) (any_last P xs y later))
    (any_cases P x (xs ++ y ∷ []) some)

or_left : (a b : Bool) → a ≡ true → (a || b) ≡ true
or_left a b is = rw is refl

or_right : (a b : Bool) → b ≡ true → (a || b) ≡ true
or_right true b is = refl
or_right false b is = is

-- The lines accepted so far and this line are accepted.
pub accepted_more : (f : Formula) (lines : List Line) (line : Line) (old new : Checked) → HasAccepted f lines old →
    IsLine line → Holds (state_of old) line → state_of new ≡ next (state_of old) line →
    new.refuted ≡ (old.refuted || adds_empty line) → HasAccepted f (lines ++ line ∷ []) new
accepted_more f lines line old new before is_line holds next_is refuted_is = record {
  formula = before.formula;
  holds = EachLine-push IsStep (start f) lines line before.holds (record { is_line = is_line; holds = subst (λ (s : State). Holds s line) before.state holds });
  state = next_is ∙ ap (λ (s : State). next s line) before.state ∙ sym (after-push (start f) lines line);
  refuted = (λ reached. forth (or_cases old.refuted (adds_empty line) (sym refuted_is ∙ reached)), λ has. refuted_is ∙ back has);
}
  where
    forth : (old.refuted ≡ true) ⊎ (adds_empty line ≡ true) → HasEmpty f (lines ++ line ∷ [])
    forth (inl was) = ⊎_elim (λ there. inl there) (λ (added : Any AddsEmpty lines). inr (any_more AddsEmpty lines line added)) (before.refuted.0 was)
    forth (inr adds) = inr (Any-push AddsEmpty lines line (adds_is line adds))

    back : HasEmpty f (lines ++ line ∷ []) → (old.refuted || adds_empty line) ≡ true
    back (inl there) = or_left old.refuted (adds_empty line) (before.refuted.1 (inl there))
    back (inr added) =
        ⊎_elim
        (λ (prefix : Any AddsEmpty lines). or_left old.refuted (adds_empty line) (before.refuted.1 (inr prefix)))
        (λ (last : AddsEmpty line). or_right old.refuted (adds_empty line) (is_adds line last))
        (any_last AddsEmpty lines line added)

pub accepted_on : (r : Result (Unit {0}) CheckError) (f : Formula) (lines : List Line) (line : Line)
    (old new : Checked) → HasAccepted f lines old → IsLine line → Judges r (line_fault (state_of old) line) →
    OnOk r (state_of new ≡ next (state_of old) line) → OnOk r (new.refuted ≡ (old.refuted || adds_empty line)) →
    OnOk r (HasAccepted f (lines ++ line ∷ []) new)
accepted_on (Ok done) f lines line old new before is_line judged next_is refuted_is = accepted_more f lines line old new before is_line (line_holds (state_of old) line judged) next_is refuted_is
accepted_on (Err e) f lines line old new before is_line judged next_is refuted_is = tt
