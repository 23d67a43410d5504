-- Two texts that are compared have an answer or at most one fault.
use Rattle.std.specs.Prelude.{◌≡◌, ℕ, List, Option, Bool, true, false, Result, Ok, Err, IsErrAnd, IfErr, refl, ◌≤◌}
use Rattle.std.proofs.Common.{ap, sym, ◌∙◌, subst}
use Rattle.net_theory.specs.Document.{Name, Latch, Document, latches_of}
use Rattle.net_theory.specs.WellFormed.{IsWellFormed}
use Rattle.net_theory.specs.Circuit.{Circuit}
use Rattle.net_theory.specs.Cost.{cost}
use Rattle.net_core.specs.declared.error.NetError.{NetError}
use Rattle.net_document.specs.Listed.{Listed}
use Rattle.net_document.specs.Format.{Format, IsNetlist, IsCircuitOfText, HasNetFault}
use Rattle.net_document.specs.FormatLaws as faults
use Rattle.format_names.specs.declared.formats.NetFormat.{NetFormat}
use Rattle.format_names.specs.declared.formats.FormatPair.{FormatPair}
use Rattle.net_formats.specs.Formats.{format_of}
use Rattle.net_formats.specs.FormatLaws.{lists_well}
use Rattle.equiv_run.specs.declared.answer.EquivOutcome.{EquivOutcome}
use Rattle.equiv_run.specs.declared.answer.CompareError.{CompareError}
use Rattle.equiv_run.specs.declared.answer.CompareError.TheVariants.{NoSecond, First, Second, DifferentInterface, Memory}
use Rattle.equiv_formats.specs.declared.comparing.NamedTwo.{NamedTwo}
use Rattle.equiv_run.specs.Pairs.{ShareInterface}
use Rattle.equiv_run.specs.PairLaws.{shared, have_same}
use Rattle.equiv_run.specs.CircuitAnswers.{IsOther}
use Rattle.equiv_run.specs.Two.{lacks_sinks}
use Rattle.equiv_values.specs.Named.{IsNamedCircuitAnswer}
use Rattle.equiv_values.specs.NamedLaws.{named_of, named_interface}
use Rattle.equiv_formats.specs.Comparison.{Lists, first_format, second_format, AreNetlists, IsFormatsAnswer, SaysNoSink, DifferInInterface, HasFormatsFault, IsFormatsRefused, IsFirstRefused, IsSecondRefused}
use Rattle.equiv_formats.specs.Comparison.{share_sections, ShareSections, AreSectionsRefused}

-- ---- documents

-- of circuits that were read
pub lists_of : (f : Format) (bytes : List ℕ) (c : Circuit) → (of : IsCircuitOfText f bytes c) → Lists f bytes of.listed.document
lists_of f bytes c of = record {
  listed = of.listed;
  said = of.said;
  is = refl;
  within = faults.text_within f bytes c of;
  well = of.well;
}

pub are_netlists : (p : FormatPair) (first second : List ℕ) (c k : Circuit) → (of_c : IsCircuitOfText (first_format p) first c) →
    (of_k : IsCircuitOfText (second_format p) second k) → AreNetlists p first second of_c.listed.document of_k.listed.document
are_netlists p first second c k of_c of_k = record {
  first_is = lists_of (first_format p) first c of_c;
  second_is = lists_of (second_format p) second k of_k;
}

ok_one : (r : Result Listed NetError) (k l : Listed) → r ≡ Ok k → r ≡ Ok l → k ≡ l
ok_one r k l x y = cc

-- a text has one document
pub lists_one : (f : Format) (bytes : List ℕ) (d e : Document) → Lists f bytes d → Lists f bytes e → d ≡ e
lists_one f bytes d e x y = sym x.is ∙ ap (λ (l : Listed). l.document) (ok_one (f.listed bytes) x.listed y.listed x.said y.said) ∙ y.is

pub netlist_listed : (f : Format) (bytes : List ℕ) (d : Document) → Lists f bytes d → IsNetlist f bytes
netlist_listed f bytes d lists = record {
  listed = lists.listed;
  said = lists.said;
  within = subst (λ (x : Document). cost x ≤ f.most) (sym lists.is) lists.within;
  well = subst (λ (x : Document). IsWellFormed x) (sym lists.is) lists.well;
}

-- ---- the answers

pub formats_answer : (p : FormatPair) (budget : ℕ) (first second : List ℕ) (c k : Circuit) (text : List ℕ) (told : Option (List ℕ)) (outcome : EquivOutcome) →
    IsCircuitOfText (first_format p) first c → IsCircuitOfText (second_format p) second k → ShareSections p first second →
    IsNamedCircuitAnswer budget c k text told outcome → IsFormatsAnswer p budget first second text told outcome
formats_answer p budget first second c k text told outcome of_c of_k sections reported = record {
  one = of_c.listed.document;
  other = of_k.listed.document;
  are = are_netlists p first second c k of_c of_k;
  interface = shared of_c.listed.document of_k.listed.document c k of_c.circuit.describes of_k.circuit.describes (named_interface budget c k text told outcome reported);
  sections = sections;
  reported = named_of budget of_c.listed.document of_k.listed.document c k text told outcome of_c.circuit of_k.circuit reported;
}

-- outputs and latches of the circuit are those of the text's document
pub says_no_sink : (f : Format) (bytes : List ℕ) (c : Circuit) (no_sink : Bool) → IsCircuitOfText f bytes c →
    no_sink ≡ lacks_sinks c.outputs c.latches → SaysNoSink f bytes no_sink
says_no_sink f bytes c no_sink of is d lists =
    let e = of.listed.document in
    let one : d ≡ e = lists_one f bytes d e lists (lists_of f bytes c of) in
    is ∙ ap (λ (names : List Name). lacks_sinks names c.latches) (sym of.circuit.describes.outputs)
    ∙ ap (λ (ls : List Latch). lacks_sinks e.outputs ls) (sym of.circuit.describes.latches)
    ∙ ap (λ (x : Document). lacks_sinks x.outputs (latches_of x)) (sym one)

-- ---- the refusals

pub netlist_of : (f : Format) (bytes : List ℕ) (c : Circuit) → IsCircuitOfText f bytes c → IsNetlist f bytes
netlist_of f bytes c of = faults.text_netlist f bytes c of

first_refused : (p : FormatPair) (first second : List ℕ) (e : CompareError) → IsFirstRefused (first_format p) first e → IsFormatsRefused p first second e
first_refused p first second NoSecond refused = absurd refused
first_refused p first second (First e) refused = refused
first_refused p first second (Second e) refused = absurd refused
first_refused p first second DifferentInterface refused = absurd refused
first_refused p first second Memory refused = tt

second_refused : (p : FormatPair) (first second : List ℕ) (c : Circuit) (e : CompareError) → IsCircuitOfText (first_format p) first c →
    IsSecondRefused (second_format p) second e → IsFormatsRefused p first second e
second_refused p first second c NoSecond of refused = absurd refused
second_refused p first second c (First e) of refused = absurd refused
second_refused p first second c (Second e) of refused = record { first_is = netlist_of (first_format p) first c of; fault = refused }
second_refused p first second c DifferentInterface of refused = absurd refused
second_refused p first second c Memory of refused = tt

other_refused : (p : FormatPair) (first second : List ℕ) (c k : Circuit) (e : CompareError) → IsCircuitOfText (first_format p) first c →
    IsCircuitOfText (second_format p) second k → IsOther c k e → IsFormatsRefused p first second e
other_refused p first second c k NoSecond of_c of_k other = absurd other
other_refused p first second c k (First e) of_c of_k other = absurd other
other_refused p first second c k (Second e) of_c of_k other = absurd other
other_refused p first second c k DifferentInterface of_c of_k other = record {
  one = of_c.listed.document;
  other = of_k.listed.document;
  are = are_netlists p first second c k of_c of_k;
  differ = λ share sections. other (have_same of_c.listed.document of_k.listed.document c k of_c.circuit.describes of_k.circuit.describes share);
}
other_refused p first second c k Memory of_c of_k other = tt

false_or_true : (b : Bool) → b ≡ false → b ≡ true → ⊥
false_or_true b isnt is = let e : true ≡ false = sym is ∙ isnt in cc

sections_refused : (p : FormatPair) (first second : List ℕ) (c k : Circuit) (e : CompareError) → IsCircuitOfText (first_format p) first c →
    IsCircuitOfText (second_format p) second k → AreSectionsRefused p first second e → IsFormatsRefused p first second e
sections_refused p first second c k NoSecond of_c of_k refused = absurd refused
sections_refused p first second c k (First e) of_c of_k refused = absurd refused
sections_refused p first second c k (Second e) of_c of_k refused = absurd refused
sections_refused p first second c k DifferentInterface of_c of_k refused = record {
  one = of_c.listed.document;
  other = of_k.listed.document;
  are = are_netlists p first second c k of_c of_k;
  differ = λ share sections. false_or_true (share_sections p.first p.second first second) refused sections;
}
sections_refused p first second c k Memory of_c of_k refused = tt

-- an error that is passed on
passed : (P : CompareError → Type 0) (r : Result NamedTwo CompareError) (e : CompareError) → IsErrAnd r (λ d. d ≡ e) →
    P e → IfErr r P
passed P (Ok x) e is holds = tt
passed P (Err d) e is holds = subst P (sym is) holds

pub first_passed : (p : FormatPair) (first second : List ℕ) (r : Result NamedTwo CompareError) (e : CompareError) →
    IsErrAnd r (λ d. d ≡ e) → IsFirstRefused (first_format p) first e → IfErr r (IsFormatsRefused p first second)
first_passed p first second r e is refused = passed (IsFormatsRefused p first second) r e is (first_refused p first second e refused)

pub second_passed : (p : FormatPair) (first second : List ℕ) (c : Circuit) (r : Result NamedTwo CompareError) (e : CompareError) →
    IsErrAnd r (λ d. d ≡ e) → IsCircuitOfText (first_format p) first c → IsSecondRefused (second_format p) second e →
    IfErr r (IsFormatsRefused p first second)
second_passed p first second c r e is of refused = passed (IsFormatsRefused p first second) r e is (second_refused p first second c e of refused)

pub other_passed : (p : FormatPair) (first second : List ℕ) (c k : Circuit) (r : Result NamedTwo CompareError) (e : CompareError) →
    IsErrAnd r (λ d. d ≡ e) → IsCircuitOfText (first_format p) first c → IsCircuitOfText (second_format p) second k →
    IsOther c k e → IfErr r (IsFormatsRefused p first second)
other_passed p first second c k r e is of_c of_k other = passed (IsFormatsRefused p first second) r e is (other_refused p first second c k e of_c of_k other)

pub sections_passed : (p : FormatPair) (first second : List ℕ) (c k : Circuit) (r : Result NamedTwo CompareError) (e : CompareError) →
    IsErrAnd r (λ d. d ≡ e) → IsCircuitOfText (first_format p) first c → IsCircuitOfText (second_format p) second k →
    AreSectionsRefused p first second e → IfErr r (IsFormatsRefused p first second)
sections_passed p first second c k r e is of_c of_k refused = passed (IsFormatsRefused p first second) r e is (sections_refused p first second c k e of_c of_k refused)

-- ---- one answer or one fault

never : (k : NetFormat) (bytes : List ℕ) (e : NetError) → IsNetlist (format_of k) bytes → HasNetFault (format_of k) bytes e → ⊥
never k bytes e is fault = faults.fault_never (format_of k) bytes e (lists_well k) is fault

same_shared : (p : FormatPair) (first second : List ℕ) (d e d' e' : Document) → AreNetlists p first second d e →
    AreNetlists p first second d' e' → ShareInterface d e → ShareInterface d' e'
same_shared p first second d e d' e' x y share =
    subst (λ (z : Document). ShareInterface d' z) (lists_one (second_format p) second e e' x.second_is y.second_is)
    (subst (λ (z : Document). ShareInterface z e) (lists_one (first_format p) first d d' x.first_is y.first_is) share)

-- two netlists of one interface, and the same sections, have no fault
pub formats_sound : (p : FormatPair) (first second : List ℕ) (d e : Document) (error : CompareError) →
    AreNetlists p first second d e → ShareInterface d e → ShareSections p first second → HasFormatsFault p first second error → ⊥
formats_sound p first second d e NoSecond are share sections fault = fault
formats_sound p first second d e (First error) are share sections fault = never p.first first error (netlist_listed (first_format p) first d are.first_is) fault
formats_sound p first second d e (Second error) are share sections fault = never p.second second error (netlist_listed (second_format p) second e are.second_is) fault.fault
formats_sound p first second d e DifferentInterface are share sections fault =
    fault.differ (same_shared p first second d e fault.one fault.other are fault.are share) sections
formats_sound p first second d e Memory are share sections fault = fault

pub formats_apart : (p : FormatPair) (budget : ℕ) (first second text : List ℕ) (told : Option (List ℕ)) (outcome : EquivOutcome) (error : CompareError) →
    IsFormatsAnswer p budget first second text told outcome → HasFormatsFault p first second error → ⊥
formats_apart p budget first second text told outcome error is fault =
    formats_sound p first second is.one is.other error is.are is.interface is.sections fault

first_netlist : (p : FormatPair) (first second : List ℕ) → DifferInInterface p first second → IsNetlist (first_format p) first
first_netlist p first second is = netlist_listed (first_format p) first is.one is.are.first_is

second_netlist : (p : FormatPair) (first second : List ℕ) → DifferInInterface p first second → IsNetlist (second_format p) second
second_netlist p first second is = netlist_listed (second_format p) second is.other is.are.second_is

pub formats_one : (p : FormatPair) (first second : List ℕ) (a b : CompareError) → HasFormatsFault p first second a → HasFormatsFault p first second b → a ≡ b
formats_one p first second (First a) (First b) x y = ap First (faults.fault_one (first_format p) first a b x y)
formats_one p first second (First a) (Second b) x y = absurd (never p.first first a y.first_is x)
formats_one p first second (First a) DifferentInterface x y = absurd (never p.first first a (first_netlist p first second y) x)
formats_one p first second (Second a) (First b) x y = absurd (never p.first first b x.first_is y)
formats_one p first second (Second a) (Second b) x y = ap Second (faults.fault_one (second_format p) second a b x.fault y.fault)
formats_one p first second (Second a) DifferentInterface x y = absurd (never p.second second a (second_netlist p first second y) x.fault)
formats_one p first second DifferentInterface (First b) x y = absurd (never p.first first b (first_netlist p first second x) y)
formats_one p first second DifferentInterface (Second b) x y = absurd (never p.second second b (second_netlist p first second x) y.fault)
formats_one p first second DifferentInterface DifferentInterface x y = refl
formats_one p first second NoSecond b x y = absurd x
formats_one p first second Memory b x y = absurd x
formats_one p first second a NoSecond x y = absurd y
formats_one p first second a Memory x y = absurd y

-- a refusal other than out of memory is a fault
pub formats_fault : (p : FormatPair) (first second : List ℕ) (e : CompareError) → IsFormatsRefused p first second e → (e ≡ Memory → ⊥) → HasFormatsFault p first second e
formats_fault p first second NoSecond is other = is
formats_fault p first second (First e) is other = is
formats_fault p first second (Second e) is other = is
formats_fault p first second DifferentInterface is other = is
formats_fault p first second Memory is other = absurd (other refl)
