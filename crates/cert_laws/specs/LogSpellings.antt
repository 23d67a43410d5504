-- The log of a subproblem, as it is accepted line by line: each line holds, and in an open log no addition is
-- subsumed.
use Rattle.std.proofs.Common.{◌≡◌, ℕ, ◌≤◌, Bool, true, false, cond, List, [], ◌∷◌, ◌++◌, length, Option, Some, None, Result, Ok, Err, refl, ap, ◌∙◌, subst, arith}
use Rattle.std.specs.Prelude.{nat_le}
use Rattle.std.proofs.lemmas.Bool.Decides.{nat_tests}
use Rattle.text_core.specs.Lines.{Line}
use Rattle.sat_theory.specs.Formula.{Formula}
use Rattle.sat_theory.specs.Line as theory
use Rattle.sat_theory.specs.State.{State, start}
use Rattle.sat_theory.specs.Log.{IsStep, AddsUnsubsumed, EachLine, added_ids}
use Rattle.sat_theory.specs.LogLaws.{EachLine-push}
use Rattle.lrat_check.specs.Judging.{line_fault}
use Rattle.lrat_check.specs.FaultLaws.{line_holds}
use Rattle.lrat_check.specs.declared.error.CheckError.{CheckError}
use Rattle.chain_core.specs.Spelling.{line}
use Rattle.cert_theory.specs.declared.data.LogEnd.{LogEnd}
use Rattle.cert_theory.specs.declared.data.LogEnd.TheVariants as ends
use Rattle.cert_theory.specs.declared.data.SubproblemError.{SubproblemError}
use Rattle.cert_theory.specs.declared.data.SubproblemError.TheVariants.{NotRefuted, EmptyClauseDerived, TooShort, NotNew}
use Rattle.cert_theory.specs.Certificate.{EndsAs}
use Rattle.cert_theory.specs.Spelling.{log_line}
use Rattle.cert_theory.specs.SubproblemLines.{state_after, is_fresh, refused, or_not_new, has_empty, spelled_in, logged_in, done_in}
use Rattle.cert_theory.specs.GivesLaws.{bind_ok, test_ok}
use Rattle.cert_laws.specs.EmptyLaws.{empty_has, has_is}
use Rattle.cert_laws.specs.FreshLaws.{IsLow, log_low, fresh_from_test}
use Rattle.cert_laws.specs.LineSpellings.{log_spells}

-- in an open log no addition is subsumed
abbrev pub AreFresh : LogEnd → Formula → List theory.Line → Type 0
AreFresh ends.Refuted f log = Unit {0}
AreFresh ends.Open f log = EachLine AddsUnsubsumed (start f) log

pub record IsLog (f : Formula) (ended : LogEnd) (log : List theory.Line) : Type 0 where
  pub holds : EachLine IsStep (start f) log
  pub fresh : AreFresh ended f log

pub no_log : (f : Formula) (ended : LogEnd) → IsLog f ended []
unfolding EachLine
no_log f ends.Refuted = record { holds = tt; fresh = tt }
no_log f ends.Open = record { holds = tt; fresh = tt }

le_is : (a b : ℕ) → nat_le a b ≡ true → a ≤ b
le_is a b e = grind (arith, nat_tests)

not_both : (b : Bool) → b ≡ true → b ≡ false → ⊥
not_both b yes_ no_ = cc

abbrev pub fine : Result (Unit {0}) SubproblemError
fine = Ok tt

-- the end of a log
pub closed_is : (f : Formula) (conflicts : ℕ) (ended : LogEnd) (log : List theory.Line) → IsLog f ended log → done_in f conflicts ended log ≡ Ok tt → EndsAs f conflicts ended log
unfolding done_in
closed_is f conflicts ends.Refuted log is e =
    let empty = test_ok (has_empty f log) fine NotRefuted tt e in
    record { holds = is.holds; reaches = empty_has f log empty.0 }
closed_is f conflicts ends.Open log is e =
    let none = open_ok (has_empty f log) (cond (nat_le conflicts (length (added_ids log))) fine (Err TooShort)) EmptyClauseDerived e in
    let enough = test_ok (nat_le conflicts (length (added_ids log))) fine TooShort tt none.1 in
    record { holds = is.holds; open_yet = λ has. not_both (has_empty f log) (has_is f log has) none.0; enough = le_is conflicts (length (added_ids log)) enough.0; fresh = is.fresh }
  where
    open_ok : (b : Bool) (r : Result (Unit {0}) SubproblemError) (d : SubproblemError) → cond b (Err d) r ≡ Ok tt → (b ≡ false) × (r ≡ Ok tt)
    open_ok true r d e = absurd cc
    open_ok false r d e = (refl, e)

abbrev pub taken : theory.Line → Result theory.Line SubproblemError
taken line = Ok line

refused_ok : (o : Option CheckError) (line x : theory.Line) → refused o line ≡ Ok x → (o ≡ None) × (line ≡ x)
refused_ok None line x e = (refl, cc)
refused_ok (Some d) line x e = absurd cc

line_ok : (line x : theory.Line) → taken line ≡ Ok x → line ≡ x
line_ok line x e = cc

new_ok : (ended : LogEnd) (s : State) (line x : theory.Line) → or_not_new ended s line ≡ Ok x → line ≡ x
new_ok ends.Refuted s line x e = cc
new_ok ends.Open s line x e = let tests = test_ok (is_fresh s line) (taken line) NotNew x e in line_ok line x tests.1

new_fresh : (ended : LogEnd) (f : Formula) (log : List theory.Line) (line x : theory.Line) → IsLow (state_after f log) →
    AreFresh ended f log → or_not_new ended (state_after f log) line ≡ Ok x → AreFresh ended f (log ++ line ∷ [])
new_fresh ends.Refuted f log line x low fresh e = tt
new_fresh ends.Open f log line x low fresh e =
    let tests = test_ok (is_fresh (state_after f log) line) (taken line) NotNew x e in
    EachLine-push AddsUnsubsumed (start f) log line fresh (fresh_from_test (state_after f log) line low tests.0)

pub record IsLogged (f : Formula) (ended : LogEnd) (log : List theory.Line) (l : Line) (x : theory.Line) : Type 0 where
  pub log_is : IsLog f ended (log ++ x ∷ [])
  pub line_is : l ≡ log_line x

pub logged_is : (f : Formula) (ended : LogEnd) (log : List theory.Line) (l : Line) (x : theory.Line) → IsLog f ended log → logged_in f ended log l ≡ Ok x → IsLogged f ended log l x
unfolding logged_in
logged_is f ended log l x is e =
    let spelled = bind_ok (spelled_in l) _ x e in
    let held = bind_ok (refused (line_fault (state_after f log) spelled.0) spelled.0) _ x spelled.2 in
    let none = refused_ok (line_fault (state_after f log) spelled.0) spelled.0 held.0 held.1 in
    let last : held.0 ≡ x = new_ok ended (state_after f log) held.0 x held.2 in
    let same : spelled.0 ≡ x = none.1 ∙ last in
    let text = log_spells l spelled.0 spelled.1 in
    let fresh = new_fresh ended f log held.0 x (log_low f log is.holds) is.fresh held.2 in
    record {
      log_is = record {
        holds = subst (λ (y : theory.Line). EachLine IsStep (start f) (log ++ y ∷ [])) same
            (EachLine-push IsStep (start f) log spelled.0 is.holds (record {
              is_line = text.0;
              holds = line_holds (state_after f log) spelled.0 none.0;
            }));
        fresh = subst (λ (y : theory.Line). AreFresh ended f (log ++ y ∷ [])) last fresh;
      };
      line_is = text.1 ∙ ap log_line same;
    }
