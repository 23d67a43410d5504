-- What was found for two circuits holds of the texts that they were read from.
use Rattle.std.specs.Prelude.{◌≡◌, ℕ, List, Result, Ok, Err, IsErrAnd, IfErr}
use Rattle.std.proofs.Common.{sym, subst}
use Rattle.net_theory.specs.Circuit.{Circuit}
use Rattle.net_document.specs.Format.{IsNetlist, IsCircuitOfText}
use Rattle.net_document.specs.FormatLaws.{text_netlist}
use Rattle.blif_core.specs.Blif.{blif_format}
use Rattle.equiv_theory.specs.Counterexample.{HaveSameInterface}
use Rattle.equiv_run.specs.declared.answer.EquivOutcome.{EquivOutcome}
use Rattle.equiv_run.specs.declared.answer.CompareError.{CompareError}
use Rattle.equiv_run.specs.declared.answer.CompareError.TheVariants.{NoSecond, First, Second, DifferentInterface, Memory}
use Rattle.equiv_run.specs.CircuitAnswers.{IsFirstRefused, IsSecondRefused, IsOther}
use Rattle.equiv_run.specs.PairLaws.{shared, have_same, lists_of}
use Rattle.equiv_run.specs.Two.{IsTwoRefused}
use Rattle.cmd_miter.specs.MiterReport.{IsFormulaOf, IsLogged, HaveNets, IsMiterText, IsLogText}

have_nets : (first second : List ℕ) (c k : Circuit) → IsCircuitOfText blif_format first c →
    IsCircuitOfText blif_format second k → HaveSameInterface c k → HaveNets first second c.net k.net
have_nets first second c k of_c of_k same = record {
  one = of_c.listed.document;
  other = of_k.listed.document;
  first_is = lists_of first c of_c;
  second_is = lists_of second k of_k;
  interface = shared of_c.listed.document of_k.listed.document c k of_c.circuit.describes of_k.circuit.describes same;
  nets = record { first_is = of_c.circuit.net; second_is = of_k.circuit.net };
}

pub miter_found : (first second : List ℕ) (c k : Circuit) (text : List ℕ) → IsCircuitOfText blif_format first c →
    IsCircuitOfText blif_format second k → IsFormulaOf c k text → IsMiterText first second text
miter_found first second c k text of_c of_k formula = record {
  n = c.net;
  m = k.net;
  have = have_nets first second c k of_c of_k formula.interface;
  is = formula.is;
}

pub log_found : (budget : ℕ) (first second : List ℕ) (c k : Circuit) (text : List ℕ) (outcome : EquivOutcome) →
    IsCircuitOfText blif_format first c → IsCircuitOfText blif_format second k → IsLogged budget c k text outcome →
    IsLogText budget first second text outcome
log_found budget first second c k text outcome of_c of_k logged = record {
  n = c.net;
  m = k.net;
  have = have_nets first second c k of_c of_k logged.interface;
  log = logged.log;
}

-- ---- the refusals

netlist_of : (bytes : List ℕ) (c : Circuit) → IsCircuitOfText blif_format bytes c → IsNetlist blif_format bytes
netlist_of bytes c of = text_netlist blif_format bytes c of

first_refused : (first second : List ℕ) (e : CompareError) → IsFirstRefused first e → IsTwoRefused first second e
first_refused first second NoSecond refused = absurd refused
first_refused first second (First e) refused = refused
first_refused first second (Second e) refused = absurd refused
first_refused first second DifferentInterface refused = absurd refused
first_refused first second Memory refused = tt

second_refused : (first second : List ℕ) (c : Circuit) (e : CompareError) → IsCircuitOfText blif_format first c →
    IsSecondRefused second e → IsTwoRefused first second e
second_refused first second c NoSecond of refused = absurd refused
second_refused first second c (First e) of refused = absurd refused
second_refused first second c (Second e) of refused = record { first_is = netlist_of first c of; fault = refused }
second_refused first second c DifferentInterface of refused = absurd refused
second_refused first second c Memory of refused = tt

other_refused : (first second : List ℕ) (c k : Circuit) (e : CompareError) → IsCircuitOfText blif_format first c →
    IsCircuitOfText blif_format second k → IsOther c k e → IsTwoRefused first second e
other_refused first second c k NoSecond of_c of_k other = absurd other
other_refused first second c k (First e) of_c of_k other = absurd other
other_refused first second c k (Second e) of_c of_k other = absurd other
other_refused first second c k DifferentInterface of_c of_k other = record {
  one = of_c.listed.document;
  other = of_k.listed.document;
  first_is = lists_of first c of_c;
  second_is = lists_of second k of_k;
  differ = λ share. other (have_same of_c.listed.document of_k.listed.document c k of_c.circuit.describes of_k.circuit.describes share);
}
other_refused first second c k Memory of_c of_k other = tt

-- an error that is passed on
passed : {T : Type 0} (P : CompareError → Type 0) (r : Result T CompareError) (e : CompareError) →
    IsErrAnd r (λ d. d ≡ e) → P e → IfErr r P
passed P (Ok x) e is holds = tt
passed P (Err d) e is holds = subst P (sym is) holds

pub first_passed : {T : Type 0} (first second : List ℕ) (r : Result T CompareError) (e : CompareError) →
    IsErrAnd r (λ d. d ≡ e) → IsFirstRefused first e → IfErr r (IsTwoRefused first second)
first_passed first second r e is refused = passed (IsTwoRefused first second) r e is (first_refused first second e refused)

pub second_passed : {T : Type 0} (first second : List ℕ) (c : Circuit) (r : Result T CompareError) (e : CompareError) →
    IsErrAnd r (λ d. d ≡ e) → IsCircuitOfText blif_format first c → IsSecondRefused second e →
    IfErr r (IsTwoRefused first second)
second_passed first second c r e is of refused = passed (IsTwoRefused first second) r e is (second_refused first second c e of refused)

pub other_passed : {T : Type 0} (first second : List ℕ) (c k : Circuit) (r : Result T CompareError) (e : CompareError) →
    IsErrAnd r (λ d. d ≡ e) → IsCircuitOfText blif_format first c → IsCircuitOfText blif_format second k →
    IsOther c k e → IfErr r (IsTwoRefused first second)
other_passed first second c k r e is of_c of_k other = passed (IsTwoRefused first second) r e is (other_refused first second c k e of_c of_k other)
