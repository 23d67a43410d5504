-- Two texts that are compared have an answer or at most one fault.
use Rattle.std.specs.Prelude.{◌≡◌, ℕ, List, Bool, Result, Ok, Err, IsErrAnd, IfErr, refl}
use Rattle.std.proofs.Common.{ap, sym, ◌∙◌, subst}
use Rattle.net_theory.specs.Document.{Name, Latch, Document, latches_of}
use Rattle.net_theory.specs.Circuit.{Circuit}
use Rattle.net_core.specs.declared.error.NetError.{NetError}
use Rattle.net_document.specs.Format.{IsNetlist, IsCircuitOfText, HasNetFault}
use Rattle.net_document.specs.FormatLaws as faults
use Rattle.blif_text.specs.ListingLaws.{texts_list}
use Rattle.blif_core.specs.Blif.{blif_format}
use Rattle.equiv_run.specs.declared.answer.EquivOutcome.{EquivOutcome}
use Rattle.equiv_run.specs.declared.answer.CompareError.{CompareError}
use Rattle.equiv_run.specs.declared.answer.CompareError.TheVariants.{NoSecond, First, Second, DifferentInterface, Memory}
use Rattle.equiv_run.specs.declared.answer.ComparedTwo.{ComparedTwo}
use Rattle.equiv_run.specs.Pairs.{Lists, ShareInterface}
use Rattle.equiv_run.specs.PairLaws.{shared, have_same, lists_of, answered_of, interface_of, lists_one, netlist_listed}
use Rattle.equiv_run.specs.CircuitAnswers.{IsCircuitAnswer, IsOther, IsFirstRefused, IsSecondRefused}
use Rattle.equiv_run.specs.Two.{lacks_sinks, IsTwoAnswer, SaysNoSink, DifferInInterface, HasTwoFault, IsTwoRefused}

-- ---- the answers

pub two_answer : (budget : ℕ) (first second : List ℕ) (c k : Circuit) (text : List ℕ) (outcome : EquivOutcome) →
    IsCircuitOfText blif_format first c → IsCircuitOfText blif_format second k →
    IsCircuitAnswer budget c k text outcome → IsTwoAnswer budget first second text outcome
two_answer budget first second c k text outcome of_c of_k reported = record {
  one = of_c.listed.document;
  other = of_k.listed.document;
  first_is = lists_of first c of_c;
  second_is = lists_of second k of_k;
  interface = shared of_c.listed.document of_k.listed.document c k of_c.circuit.describes of_k.circuit.describes (interface_of budget c k text outcome reported);
  reported = answered_of budget of_c.listed.document of_k.listed.document c k text outcome of_c.circuit of_k.circuit reported;
}

-- outputs and latches of the circuit are those of the text's document
pub says_no_sink : (bytes : List ℕ) (c : Circuit) (no_sink : Bool) → IsCircuitOfText blif_format bytes c →
    no_sink ≡ lacks_sinks c.outputs c.latches → SaysNoSink bytes no_sink
says_no_sink bytes c no_sink of is d lists =
    let e = of.listed.document in
    let one : d ≡ e = lists_one bytes d e lists (lists_of bytes c of) in
    is ∙ ap (λ (names : List Name). lacks_sinks names c.latches) (sym of.circuit.describes.outputs)
    ∙ ap (λ (ls : List Latch). lacks_sinks e.outputs ls) (sym of.circuit.describes.latches)
    ∙ ap (λ (x : Document). lacks_sinks x.outputs (latches_of x)) (sym one)

-- ---- the refusals

netlist_of : (bytes : List ℕ) (c : Circuit) → IsCircuitOfText blif_format bytes c → IsNetlist blif_format bytes
netlist_of bytes c of = faults.text_netlist blif_format bytes c of

first_refused : (first second : List ℕ) (e : CompareError) → IsFirstRefused first e → IsTwoRefused first second e
first_refused first second NoSecond refused = absurd refused
first_refused first second (First e) refused = refused
first_refused first second (Second e) refused = absurd refused
first_refused first second DifferentInterface refused = absurd refused
first_refused first second Memory refused = tt

second_refused : (first second : List ℕ) (c : Circuit) (e : CompareError) → IsCircuitOfText blif_format first c →
    IsSecondRefused second e → IsTwoRefused first second e
second_refused first second c NoSecond of refused = absurd refused
second_refused first second c (First e) of refused = absurd refused
second_refused first second c (Second e) of refused = record { first_is = netlist_of first c of; fault = refused }
second_refused first second c DifferentInterface of refused = absurd refused
second_refused first second c Memory of refused = tt

other_refused : (first second : List ℕ) (c k : Circuit) (e : CompareError) → IsCircuitOfText blif_format first c →
    IsCircuitOfText blif_format second k → IsOther c k e → IsTwoRefused first second e
other_refused first second c k NoSecond of_c of_k other = absurd other
other_refused first second c k (First e) of_c of_k other = absurd other
other_refused first second c k (Second e) of_c of_k other = absurd other
other_refused first second c k DifferentInterface of_c of_k other = record {
  one = of_c.listed.document;
  other = of_k.listed.document;
  first_is = lists_of first c of_c;
  second_is = lists_of second k of_k;
  differ = λ share. other (have_same of_c.listed.document of_k.listed.document c k of_c.circuit.describes of_k.circuit.describes share);
}
other_refused first second c k Memory of_c of_k other = tt

-- an error that is passed on
passed : (P : CompareError → Type 0) (r : Result ComparedTwo CompareError) (e : CompareError) → IsErrAnd r (λ d. d ≡ e) →
    P e → IfErr r P
passed P (Ok x) e is holds = tt
passed P (Err d) e is holds = subst P (sym is) holds

pub first_passed : (first second : List ℕ) (r : Result ComparedTwo CompareError) (e : CompareError) →
    IsErrAnd r (λ d. d ≡ e) → IsFirstRefused first e → IfErr r (IsTwoRefused first second)
first_passed first second r e is refused = passed (IsTwoRefused first second) r e is (first_refused first second e refused)

pub second_passed : (first second : List ℕ) (c : Circuit) (r : Result ComparedTwo CompareError) (e : CompareError) →
    IsErrAnd r (λ d. d ≡ e) → IsCircuitOfText blif_format first c → IsSecondRefused second e →
    IfErr r (IsTwoRefused first second)
second_passed first second c r e is of refused = passed (IsTwoRefused first second) r e is (second_refused first second c e of refused)

pub other_passed : (first second : List ℕ) (c k : Circuit) (r : Result ComparedTwo CompareError) (e : CompareError) →
    IsErrAnd r (λ d. d ≡ e) → IsCircuitOfText blif_format first c → IsCircuitOfText blif_format second k →
    IsOther c k e → IfErr r (IsTwoRefused first second)
other_passed first second c k r e is of_c of_k other = passed (IsTwoRefused first second) r e is (other_refused first second c k e of_c of_k other)

-- ---- one answer or one fault

never : (bytes : List ℕ) (e : NetError) → IsNetlist blif_format bytes → HasNetFault blif_format bytes e → ⊥
never bytes e is fault = faults.fault_never blif_format bytes e texts_list is fault

same_shared : (first second : List ℕ) (d e d' e' : Document) → Lists first d → Lists second e → Lists first d' →
    Lists second e' → ShareInterface d e → ShareInterface d' e'
same_shared first second d e d' e' x y x' y' share =
    subst (λ (z : Document). ShareInterface d' z) (lists_one second e e' y y')
    (subst (λ (z : Document). ShareInterface z e) (lists_one first d d' x x') share)

-- two netlists of one interface have no fault
pub two_sound : (first second : List ℕ) (d e : Document) (error : CompareError) → Lists first d → Lists second e →
    ShareInterface d e → HasTwoFault first second error → ⊥
two_sound first second d e NoSecond x y share fault = fault
two_sound first second d e (First error) x y share fault = never first error (netlist_listed first d x) fault
two_sound first second d e (Second error) x y share fault = never second error (netlist_listed second e y) fault.fault
two_sound first second d e DifferentInterface x y share fault =
    fault.differ (same_shared first second d e fault.one fault.other x y fault.first_is fault.second_is share)
two_sound first second d e Memory x y share fault = fault

pub two_apart : (budget : ℕ) (first second text : List ℕ) (outcome : EquivOutcome) (error : CompareError) →
    IsTwoAnswer budget first second text outcome → HasTwoFault first second error → ⊥
two_apart budget first second text outcome error is fault =
    two_sound first second is.one is.other error is.first_is is.second_is is.interface fault

differ_netlists : (first second : List ℕ) → DifferInInterface first second → IsNetlist blif_format first × IsNetlist blif_format second
differ_netlists first second is = (netlist_listed first is.one is.first_is, netlist_listed second is.other is.second_is)

pub two_one : (first second : List ℕ) (a b : CompareError) → HasTwoFault first second a → HasTwoFault first second b → a ≡ b
two_one first second (First a) (First b) x y = ap First (faults.fault_one blif_format first a b x y)
two_one first second (First a) (Second b) x y = absurd (never first a y.first_is x)
two_one first second (First a) DifferentInterface x y = absurd (never first a (differ_netlists first second y).0 x)
two_one first second (Second a) (First b) x y = absurd (never first b x.first_is y)
two_one first second (Second a) (Second b) x y = ap Second (faults.fault_one blif_format second a b x.fault y.fault)
two_one first second (Second a) DifferentInterface x y = absurd (never second a (differ_netlists first second y).1 x.fault)
two_one first second DifferentInterface (First b) x y = absurd (never first b (differ_netlists first second x).0 y)
two_one first second DifferentInterface (Second b) x y = absurd (never second b (differ_netlists first second x).1 y.fault)
two_one first second DifferentInterface DifferentInterface x y = refl
two_one first second NoSecond b x y = absurd x
two_one first second Memory b x y = absurd x
two_one first second a NoSecond x y = absurd y
two_one first second a Memory x y = absurd y

-- a refusal other than out of memory is a fault
pub two_fault : (first second : List ℕ) (e : CompareError) → IsTwoRefused first second e → (e ≡ Memory → ⊥) → HasTwoFault first second e
two_fault first second NoSecond is other = is
two_fault first second (First e) is other = is
two_fault first second (Second e) is other = is
two_fault first second DifferentInterface is other = is
two_fault first second Memory is other = absurd (other refl)
