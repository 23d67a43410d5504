-- Lines of a log, and its end.
use Rattle.std.proofs.Common.{◌≡◌, ℕ, ◌+◌, ◌-◌, ◌==◌, Bool, true, false, cond, List, [], ◌∷◌, ◌++◌, length, Option, Some, None, Result, Ok, Err, sym, ap, ◌∙◌, subst, arith}
use Rattle.std.specs.Prelude.{nat_le}
use Rattle.std.specs.Result.{IsErrAnd}
use Rattle.std.proofs.lemmas.Grind.{common_steps}
use Rattle.std.proofs.lemmas.Bool.Decides.{nat_tests}
use Rattle.text_core.specs.Lines.{Line}
use Rattle.sat_theory.specs.Formula.{Formula}
use Rattle.sat_theory.specs.Line as theory
use Rattle.sat_theory.specs.State.{State}
use Rattle.sat_theory.specs.Log.{added_ids}
use Rattle.sat_theory.specs.LogLaws.{added_ids-add, added_ids-delete}
use Rattle.lrat_check.specs.Checked.{Checked, state_of, HasAccepted}
use Rattle.lrat_check.specs.Judging.{line_fault}
use Rattle.lrat_check.specs.Seen.{Refuses}
use Rattle.lrat_check.specs.declared.error.CheckError.{CheckError}
use Rattle.lrat_check.specs.declared.error.CheckError.TheVariants.{UnknownId, NotUnit, NoConflict, UnknownDelete, IdNotGreater, UnknownVariable, Memory}
use Rattle.cert_theory.specs.declared.data.LogEnd.{LogEnd}
use Rattle.cert_theory.specs.declared.data.LogEnd.TheVariants.{Refuted, Open}
use Rattle.cert_theory.specs.declared.data.SubproblemError.{SubproblemError}
use Rattle.cert_theory.specs.declared.data.SubproblemError.TheVariants.{NotNew}
use Rattle.cert_theory.specs.Gives.{◌>>=◌, SubproblemFails}
use Rattle.cert_theory.specs.SubproblemLines.{is_line, refused, is_fresh, or_not_new, state_after, spelled_in, logged_in, closed, done_in, subproblem_in}
use Rattle.cert_theory.specs.Spelling.{done_text}
use Rattle.cert_theory.specs.GivesLaws.{subproblem_fails_bind, subproblem_fails_is}
use Rattle.cert_laws.specs.EmptyLaws.{refuted_is}
use Rattle.cert_laws.specs.FreshLaws.{IsLow, log_low, test_is}
use Rattle.cert_file.specs.Logged.{is_unsubsumed_by, MayAdd, IsRefusal, added_by, IsLogged, IsReading, IsFed}
use Rattle.cert_file.specs.declared.subproblem.SubproblemReader.{SubproblemReader}
use Rattle.cert_file.specs.declared.subproblem.SubproblemStep.{SubproblemStep}

-- a line that can be read
abbrev after_spelling : Formula → LogEnd → List theory.Line → theory.Line → Result theory.Line SubproblemError
after_spelling f ended log line = refused (line_fault (state_after f log) line) line >>= λ held. or_not_new ended (state_after f log) held

logged_is : (f : Formula) (ended : LogEnd) (log : List theory.Line) (l : Line) (line : theory.Line) → spelled_in l ≡ Ok line → logged_in f ended log l ≡ after_spelling f ended log line
unfolding logged_in
logged_is f ended log l line e = ap (λ (r : Result theory.Line SubproblemError). r >>= after_spelling f ended log) e

-- a line that can't be parsed
pub unspelled : (f : Formula) (ended : LogEnd) (log : List theory.Line) (l : Line) (e : SubproblemError) → SubproblemFails e (spelled_in l) → SubproblemFails e (logged_in f ended log l)
unfolding logged_in
unspelled f ended log l e fails = subproblem_fails_bind e (spelled_in l) (after_spelling f ended log) fails

-- the checker's state is that of the log
fault_is : (f : Formula) (log : List theory.Line) (c : Checked) (line : theory.Line) → HasAccepted f log c → line_fault (state_after f log) line ≡ line_fault (state_of c) line
fault_is f log c line accepted = ap (λ (s : State). line_fault s line) (sym accepted.state)

refusal_fails : (fault : CheckError) (e : SubproblemError) (o : Option CheckError) (line : theory.Line)
    (next : theory.Line → Result theory.Line SubproblemError) → Refuses fault o → IsRefusal fault e →
    SubproblemFails e (refused o line >>= next)
refusal_fails (UnknownId id) e o line next claim is =
    subst (λ (d : SubproblemError). SubproblemFails d (refused o line >>= next)) (sym is)
    (ap (λ (p : Option CheckError). refused p line >>= next) claim)
refusal_fails (NotUnit id) e o line next claim is =
    subst (λ (d : SubproblemError). SubproblemFails d (refused o line >>= next)) (sym is)
    (ap (λ (p : Option CheckError). refused p line >>= next) claim)
refusal_fails NoConflict e o line next claim is = subst (λ (d : SubproblemError). SubproblemFails d (refused o line >>= next)) (sym is) (ap (λ (p : Option CheckError). refused p line >>= next) claim)
refusal_fails (UnknownDelete id) e o line next claim is =
    subst (λ (d : SubproblemError). SubproblemFails d (refused o line >>= next)) (sym is)
    (ap (λ (p : Option CheckError). refused p line >>= next) claim)
refusal_fails (IdNotGreater id) e o line next claim is =
    subst (λ (d : SubproblemError). SubproblemFails d (refused o line >>= next)) (sym is)
    (ap (λ (p : Option CheckError). refused p line >>= next) claim)
refusal_fails (UnknownVariable v) e o line next claim is =
    subst (λ (d : SubproblemError). SubproblemFails d (refused o line >>= next)) (sym is)
    (ap (λ (p : Option CheckError). refused p line >>= next) claim)
refusal_fails Memory e o line next claim is = subst (λ (d : SubproblemError). SubproblemFails d (refused o line >>= next)) (sym is) tt

-- a line that doesn't hold
pub refused_line : (f : Formula) (ended : LogEnd) (log : List theory.Line) (l : Line) (line : theory.Line) (c : Checked)
    (fault : CheckError) (e : SubproblemError) → spelled_in l ≡ Ok line → HasAccepted f log c →
    Refuses fault (line_fault (state_of c) line) → IsRefusal fault e → SubproblemFails e (logged_in f ended log l)
refused_line f ended log l line c fault e spelled accepted claim is =
    let claim' : Refuses fault (line_fault (state_after f log) line) = subst (λ (o : Option CheckError). Refuses fault o) (sym (fault_is f log c line accepted)) claim in
    subproblem_fails_is e (after_spelling f ended log line) (logged_in f ended log l) (logged_is f ended log l line spelled)
    (refusal_fails fault e (line_fault (state_after f log) line) line (λ held. or_not_new ended (state_after f log) held) claim' is)

-- a line that holds is accepted where the test allows it
fresh_is : (f : Formula) (log : List theory.Line) (c : Checked) (line : theory.Line) (b : Bool) → HasAccepted f log c → is_unsubsumed_by c line b → b ≡ is_fresh (state_after f log) line
fresh_is f log c (theory.Add id lits hints) b accepted new =
    let at : b ≡ is_fresh (state_of c) (theory.Add id lits hints) = test_is (state_of c) lits b (subst (λ (s : State). IsLow s) (sym accepted.state) (log_low f log accepted.holds)) new in
    at ∙ ap (λ (s : State). is_fresh s (theory.Add id lits hints)) accepted.state
fresh_is f log c (theory.Delete id ids) b accepted new = new

allowed_is : (f : Formula) (ended : LogEnd) (log : List theory.Line) (c : Checked) (line : theory.Line) (b : Bool) →
    HasAccepted f log c → MayAdd c ended line b → or_not_new ended (state_after f log) line ≡
    cond b (Ok line) (Err NotNew)
allowed_is f Refuted log c line b accepted may = sym (ap (λ (x : Bool). cond x (Ok line) (Err NotNew)) may)
allowed_is f Open log c line b accepted may = ap (λ (x : Bool). cond x (Ok line) (Err NotNew)) (sym (fresh_is f log c line b accepted may))

pub held_line : (f : Formula) (ended : LogEnd) (log : List theory.Line) (l : Line) (line : theory.Line) (c : Checked)
    (b : Bool) → spelled_in l ≡ Ok line → HasAccepted f log c → line_fault (state_of c) line ≡ None →
    MayAdd c ended line b → logged_in f ended log l ≡ cond b (Ok line) (Err NotNew)
held_line f ended log l line c b spelled accepted claim may =
    logged_is f ended log l line spelled
    ∙ ap (λ (o : Option CheckError). refused o line >>= λ held. or_not_new ended (state_after f log) held) (fault_is f log c line accepted ∙ claim)
    ∙ allowed_is f ended log c line b accepted may

-- how many clauses were added
pub added_is : (log : List theory.Line) (line : theory.Line) → length (added_ids (log ++ line ∷ [])) ≡ length (added_ids log) + added_by line
added_is log (theory.Add id lits hints) = ap length (added_ids-add log id lits hints) ∙ grind (arith, common_steps)
added_is log (theory.Delete id ids) = let same = ap length (added_ids-delete log id ids) in omega (arith, same)

-- ---- the reader

-- nothing is missing where there are enough additions
enough_is : (conflicts additions missing : ℕ) → missing ≡ conflicts - additions → nat_le conflicts additions ≡ (missing == 0)
enough_is conflicts additions missing is = grind (arith, nat_tests, is)

-- and one more addition leaves one less missing
pub one_less : (conflicts additions added more missing left : ℕ) → missing ≡ conflicts - additions → more ≡ additions + added → left ≡ missing - added → left ≡ conflicts - more
one_less conflicts additions added more missing left is sum less = omega arith

-- the end, by what the reader keeps
closed_is : (f : Formula) (conflicts : ℕ) (log : List theory.Line) (reader : SubproblemReader) →
    IsReading f conflicts log reader → done_in f conflicts reader.ended log ≡
    closed reader.checker.refuted (reader.missing == 0) reader.ended
unfolding done_in
closed_is f conflicts log reader reading =
    ap (λ (b : Bool). closed b (nat_le conflicts (length (added_ids log))) reader.ended) (sym (refuted_is f log reader.checker reading.accepted))
    ∙ ap (λ (b : Bool). closed reader.checker.refuted b reader.ended) (enough_is conflicts (length (added_ids log)) reader.missing reading.missing)

abbrev stop : Unit {0} → Result (Option theory.Line) SubproblemError
stop done = Ok None

abbrev one_more : theory.Line → Result (Option theory.Line) SubproblemError
one_more line = Ok (Some line)

-- a line is either of the two
by_test : (f : Formula) (conflicts : ℕ) (ended : LogEnd) (log : List theory.Line) (l : Line) (done : Bool) →
    is_line done_text l ≡ done → subproblem_in f conflicts ended log l ≡
    cond done (done_in f conflicts ended log >>= stop) (logged_in f ended log l >>= one_more)
unfolding subproblem_in
by_test f conflicts ended log l done is = ap (λ (b : Bool). cond b (done_in f conflicts ended log >>= stop) (logged_in f ended log l >>= one_more)) is

pub done_fails : (f : Formula) (conflicts : ℕ) (log : List theory.Line) (reader : SubproblemReader) (l : Line)
    (e : SubproblemError) → IsReading f conflicts log reader → is_line done_text l ≡ true →
    SubproblemFails e (closed reader.checker.refuted (reader.missing == 0) reader.ended) →
    SubproblemFails e (subproblem_in f conflicts reader.ended log l)
done_fails f conflicts log reader l e reading is fails =
    subproblem_fails_is e _ _ (by_test f conflicts reader.ended log l true is)
    (subproblem_fails_bind e (done_in f conflicts reader.ended log) stop (subproblem_fails_is e _ _ (closed_is f conflicts log reader reading) fails))

pub done_goes : (f : Formula) (conflicts : ℕ) (log : List theory.Line) (reader : SubproblemReader) (l : Line) →
    IsReading f conflicts log reader → is_line done_text l ≡ true →
    closed reader.checker.refuted (reader.missing == 0) reader.ended ≡ Ok tt →
    subproblem_in f conflicts reader.ended log l ≡ Ok None
done_goes f conflicts log reader l reading is closes =
    by_test f conflicts reader.ended log l true is
    ∙ ap (λ (r : Result (Unit {0}) SubproblemError). r >>= stop) (closed_is f conflicts log reader reading ∙ closes)

pub logged_fails : (f : Formula) (conflicts : ℕ) (ended : LogEnd) (log : List theory.Line) (l : Line)
    (e : SubproblemError) → is_line done_text l ≡ false → SubproblemFails e (logged_in f ended log l) →
    SubproblemFails e (subproblem_in f conflicts ended log l)
logged_fails f conflicts ended log l e is fails =
    subproblem_fails_is e _ _ (by_test f conflicts ended log l false is) (subproblem_fails_bind e (logged_in f ended log l) one_more fails)

pub logged_goes : (f : Formula) (conflicts : ℕ) (ended : LogEnd) (log : List theory.Line) (l : Line)
    (line : theory.Line) → is_line done_text l ≡ false → logged_in f ended log l ≡ Ok line →
    subproblem_in f conflicts ended log l ≡ Ok (Some line)
logged_goes f conflicts ended log l line is read = by_test f conflicts ended log l false is ∙ ap (λ (r : Result theory.Line SubproblemError). r >>= one_more) read

-- ---- faults that are passed on

pub logged_err : (r : Result ℕ SubproblemError) (e : SubproblemError) (f : Formula) (ended : LogEnd)
    (log : List theory.Line) (l : Line) (c : Checked) → IsErrAnd r (λ d. d ≡ e) →
    SubproblemFails e (logged_in f ended log l) → IsLogged f ended log l c r
logged_err (Ok added) e f ended log l c is fails = absurd is
logged_err (Err d) e f ended log l c is fails = subst (λ (x : SubproblemError). SubproblemFails x (logged_in f ended log l)) (sym is) fails

pub fed_err : (r : Result SubproblemStep SubproblemError) (e : SubproblemError) (f : Formula) (conflicts : ℕ)
    (ended : LogEnd) (log : List theory.Line) (l : Line) → IsErrAnd r (λ d. d ≡ e) →
    SubproblemFails e (subproblem_in f conflicts ended log l) → IsFed f conflicts ended log l r
fed_err (Ok step) e f conflicts ended log l is fails = absurd is
fed_err (Err d) e f conflicts ended log l is fails = subst (λ (x : SubproblemError). SubproblemFails x (subproblem_in f conflicts ended log l)) (sym is) fails
