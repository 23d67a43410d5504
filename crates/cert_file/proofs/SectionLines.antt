-- Lines of sections.
use Rattle.std.proofs.Common.{◌≡◌, ℕ, ◌+◌, Bool, true, false, cond, List, [], ◌∷◌, length, drop, Contains, zero, suc, ◌≤◌, Option, Some, None, Result, Ok, Err, refl, arith, ap, ◌∙◌}
use Rattle.std.specs.Prelude.{IfOk}
use Rattle.text_core.specs.Lines.{Line}
use Rattle.sat_theory.specs.Formula.{Formula}
use Rattle.sat_theory.specs.Line as theory
use Rattle.enc_theory.specs.declared.subproblem.Subproblem.{Subproblem}
use Rattle.enc_theory.specs.declared.subproblem.Subproblem.TheVariants.{Whole, Levels}
use Rattle.cert_theory.specs.Certificate.{formula_of, stops_after, due_after}
use Rattle.settings.specs.declared.methods.Method.{Method}
use Rattle.cert_theory.specs.declared.data.Header.{Header}
use Rattle.cert_theory.specs.declared.data.LogEnd.{LogEnd}
use Rattle.cert_theory.specs.declared.data.Verdict.{Verdict}
use Rattle.cert_theory.specs.declared.data.CertificateError.{CertificateError}
use Rattle.cert_theory.specs.declared.data.CertificateError.TheVariants.{Syntax}
use Rattle.cert_theory.specs.declared.data.SubproblemError.{SubproblemError}
use Rattle.cert_theory.specs.Gives.{◌>>=◌, Fails, SubproblemFails}
use Rattle.cert_theory.specs.SubproblemLines.{name_in, ended_in, subproblem_in}
use Rattle.cert_theory.specs.Judging.{or_syntax, before, SectionState, Due, Begun, Within, may_follow, Progress, fault_at, at_line, after_line, sections_of}
use Rattle.cert_file.specs.FenceNames.{IsFenceNamed}
use Rattle.cert_theory.specs.GivesLaws.{fails_bind, located_fails}

abbrev pub progress : ℕ → Option ℕ → SectionState → Progress
progress size low place = record { size = size; low = low; place = place }

abbrev come : Progress → Result Progress CertificateError
come p = Ok p

abbrev go_on : Header → ℕ → List Line → Progress → Result Verdict CertificateError
go_on h number ls next = sections_of h (number + 1) next ls

-- ---- the line that begins a log

pub begun_fails : (h : Header) (number size : ℕ) (low : Option ℕ) (subproblem : Subproblem) (later : List Subproblem)
    (l : Line) (ls : List Line) → ended_in l ≡ None →
    sections_of h number (progress size low (Begun subproblem later)) (l ∷ ls) ≡ Err (Syntax number)
unfolding sections_of
begun_fails h number size low subproblem later l ls none =
    ap (λ (o : Option LogEnd). (or_syntax number o >>= λ ended. come (progress size low (Within subproblem (due_after h.method ended later) ended []))) >>= go_on h number ls) none

pub begun_goes : (h : Header) (number size : ℕ) (low : Option ℕ) (subproblem : Subproblem) (later : List Subproblem)
    (l : Line) (ls : List Line) (ended : LogEnd) → ended_in l ≡ Some ended →
    sections_of h number (progress size low (Begun subproblem later)) (l ∷ ls) ≡
    sections_of h (number + 1) (progress size low (Within subproblem (due_after h.method ended later) ended [])) ls
unfolding sections_of
begun_goes h number size low subproblem later l ls ended e =
    ap (λ (o : Option LogEnd). (or_syntax number o >>= λ ended. come (progress size low (Within subproblem (due_after h.method ended later) ended []))) >>= go_on h number ls) e

-- ---- the lines of a log

pub subproblem_fails : (h : Header) (number size : ℕ) (low : Option ℕ) (subproblem : Subproblem)
    (later : List Subproblem) (ended : LogEnd) (log : List theory.Line) (l : Line) (ls : List Line)
    (e : SubproblemError) → SubproblemFails e (subproblem_in (formula_of h size subproblem) h.conflicts ended log l) →
    Fails (fault_at number e) (sections_of h number (progress size low (Within subproblem later ended log)) (l ∷ ls))
unfolding sections_of
subproblem_fails h number size low subproblem later ended log l ls e fails =
    let read = subproblem_in (formula_of h size subproblem) h.conflicts ended log l in
    fails_bind (fault_at number e) (at_line number read >>= λ step. come (after_line size low subproblem later ended log step)) (go_on h number ls)
    (fails_bind (fault_at number e) (at_line number read) (λ step. come (after_line size low subproblem later ended log step)) (located_fails number e read fails))

pub subproblem_goes : (h : Header) (number size : ℕ) (low : Option ℕ) (subproblem : Subproblem)
    (later : List Subproblem) (ended : LogEnd) (log : List theory.Line) (l : Line) (ls : List Line)
    (step : Option theory.Line) → subproblem_in (formula_of h size subproblem) h.conflicts ended log l ≡ Ok step →
    sections_of h number (progress size low (Within subproblem later ended log)) (l ∷ ls) ≡
    sections_of h (number + 1) (after_line size low subproblem later ended log step) ls
unfolding sections_of
subproblem_goes h number size low subproblem later ended log l ls step e =
    ap (λ (r : Result (Option theory.Line) SubproblemError). (at_line number r >>= λ step. come (after_line size low subproblem later ended log step)) >>= go_on h number ls) e

-- ---- names

due_fails : (h : Header) (number size : ℕ) (low : Option ℕ) (sizes : List ℕ) (later : List Subproblem) (l : Line)
    (ls : List Line) (e : SubproblemError) → SubproblemFails e (name_in (may_follow l) sizes l) →
    Fails (fault_at number e) (sections_of h number (progress size low (Due sizes later)) (l ∷ ls))
unfolding sections_of
due_fails h number size low sizes later l ls e fails =
    let read = name_in (may_follow l) sizes l in
    fails_bind (fault_at number e) (at_line number read >>= λ is_named. come (progress size low (Begun (Levels sizes) later))) (go_on h number ls)
    (fails_bind (fault_at number e) (at_line number read) (λ is_named. come (progress size low (Begun (Levels sizes) later))) (located_fails number e read fails))

due_goes : (h : Header) (number size : ℕ) (low : Option ℕ) (sizes : List ℕ) (later : List Subproblem) (l : Line)
    (ls : List Line) → name_in (may_follow l) sizes l ≡ Ok tt →
    sections_of h number (progress size low (Due sizes later)) (l ∷ ls) ≡
    sections_of h (number + 1) (progress size low (Begun (Levels sizes) later)) ls
unfolding sections_of
due_goes h number size low sizes later l ls e = ap (λ (r : Result (Unit {0}) SubproblemError).
    (at_line number r >>= λ is_named. come (progress size low (Begun (Levels sizes) later))) >>= go_on h number ls) e

-- a name that is due is at fault
pub named_fails : (subproblem : Subproblem) (h : Header) (number size : ℕ) (low : Option ℕ) (later : List Subproblem)
    (l : Line) (ls : List Line) (e : SubproblemError) → IsFenceNamed subproblem (may_follow l) l (Err e) →
    Fails (fault_at number e) (sections_of h number (before size low (subproblem ∷ later)) (l ∷ ls))
unfolding before
named_fails Whole h number size low later l ls e is = absurd cc
named_fails (Levels sizes) h number size low later l ls e is = due_fails h number size low sizes later l ls e is

-- it was read
pub named_goes : (subproblem : Subproblem) (h : Header) (number size : ℕ) (low : Option ℕ) (later : List Subproblem)
    (l : Line) (ls : List Line) (is_named : Bool) → is_named ≡ true →
    IsFenceNamed subproblem (may_follow l) l (Ok is_named) →
    sections_of h number (before size low (subproblem ∷ later)) (l ∷ ls) ≡
    sections_of h (number + 1) (progress size low (Begun subproblem later)) ls
unfolding before
named_goes Whole h number size low later l ls is_named e is = absurd cc
named_goes (Levels sizes) h number size low later l ls is_named e is = due_goes h number size low sizes later l ls is.1

-- there is none
pub untitled_goes : (subproblem : Subproblem) (h : Header) (number size : ℕ) (low : Option ℕ) (later : List Subproblem)
    (ls : List Line) (l : Line) (is_named : Bool) → is_named ≡ false →
    IsFenceNamed subproblem (may_follow l) l (Ok is_named) →
    sections_of h number (before size low (subproblem ∷ later)) ls ≡
    sections_of h number (progress size low (Begun subproblem later)) ls
unfolding before
untitled_goes Whole h number size low later ls l is_named e is = refl
untitled_goes (Levels sizes) h number size low later ls l is_named e is = let opened = is.0 in absurd cc

-- ---- lists

pub drop_all : {A : Type 0} (xs : List A) (k : ℕ) → length xs ≤ k → drop k xs ≡ []
drop_all [] zero few = refl
drop_all [] (suc k) few = refl
drop_all (x ∷ xs) zero few = absurd (omega arith)
drop_all (x ∷ xs) (suc k) few = drop_all xs k (omega arith)

-- the index of what is due next
left_none : (stops : Bool) (later : List Subproblem) → stops ≡ true → [] ≡ (cond stops [] later)
left_none true later e = refl
left_none false later e = absurd cc

left_all : (stops : Bool) (later : List Subproblem) → stops ≡ false → later ≡ (cond stops [] later)
left_all true later e = absurd cc
left_all false later e = refl

pub next_stops : (method : Method) (ended : LogEnd) (due : List Subproblem) (at : ℕ) → stops_after method ended ≡ true →
    drop (length due) due ≡ due_after method ended (drop at due)
next_stops method ended due at stops = drop_all due (length due) (omega arith) ∙ left_none (stops_after method ended) (drop at due) stops

pub next_goes : (method : Method) (ended : LogEnd) (due : List Subproblem) (at : ℕ) → stops_after method ended ≡ false →
    drop at due ≡ due_after method ended (drop at due)
next_goes method ended due at goes = left_all (stops_after method ended) (drop at due) goes

pub ruleset nexts = (next_stops, next_goes)

pub first_of : {A : Type 0} (xs : List A) (k : ℕ) (x : A) (later : List A) → drop k xs ≡ x ∷ later → Contains xs x
first_of [] zero x later e = absurd cc
first_of [] (suc k) x later e = absurd cc
first_of (y ∷ ys) zero x later e = let same : y ≡ x = cc in (0, omega arith, same)
first_of (y ∷ ys) (suc k) x later e = let rest = first_of ys k x later e in (suc rest.0, omega (arith, rest.1), rest.2)

pub same_first : {A : Type 0} (x y : A) (xs ys zs : List A) → zs ≡ x ∷ xs → zs ≡ y ∷ ys → x ≡ y
same_first x y xs ys zs one two = cc

-- the formula of a subproblem that equals another one
pub formula_at : {E : Type 0} (r : Result Formula E) (h : Header) (size : ℕ) (p q : Subproblem) → p ≡ q → IfOk r (λ cnf. cnf ≡ formula_of h size p) → IfOk r (λ cnf. cnf ≡ formula_of h size q)
formula_at (Ok f) h size p q same is = is ∙ ap (formula_of h size) same
formula_at (Err e) h size p q same is = tt
