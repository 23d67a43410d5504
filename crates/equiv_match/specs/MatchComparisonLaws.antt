-- Two texts that are compared by names have an answer or at most one fault.
use Rattle.std.specs.Prelude.{◌≡◌, ℕ, ◌+◌, ◌≤◌, List, ◌++◌, length, map, Option, Some, None, Result, Ok, IsErrAnd, IfErr, refl}
use Rattle.std.proofs.Common.{arith, ap, sym, ◌∙◌, subst}
use Rattle.std.proofs.lemmas.List.{length-map}
use Rattle.net_theory.specs.Limits.{most_of_two}
use Rattle.net_theory.specs.Document.{Name, Latch, Document, latch_output, latches_of, source_names}
use Rattle.net_theory.specs.Circuit.{Circuit, IsProper, Describes, IsCircuitOf, sources_of}
use Rattle.net_core.specs.declared.error.NetError.{NetError}
use Rattle.net_document.specs.Listed.{Listed}
use Rattle.net_document.specs.Format.{IsNetlist, IsCircuitOfText, HasNetFault}
use Rattle.net_document.specs.FormatLaws as faults
use Rattle.format_names.specs.declared.formats.NetFormat.{NetFormat}
use Rattle.format_names.specs.declared.formats.FormatPair.{FormatPair}
use Rattle.net_formats.specs.Formats.{format_of}
use Rattle.net_formats.specs.FormatLaws.{lists_well}
use Rattle.equiv_core.specs.Limits.{IsSmall}
use Rattle.equiv_run.specs.declared.answer.EquivOutcome.{EquivOutcome}
use Rattle.equiv_run.specs.declared.answer.CompareError.TheVariants.{NoSecond, First, Second, DifferentInterface, Memory}
use Rattle.equiv_formats.specs.declared.comparing.NamedTwo.{NamedTwo}
use Rattle.equiv_run.specs.Pairs.{ShareInterface}
use Rattle.equiv_run.specs.PairLaws.{shared, have_same}
use Rattle.equiv_values.specs.Named.{IsNamedCircuitAnswer}
use Rattle.equiv_values.specs.NamedLaws.{named_of, named_interface}
use Rattle.equiv_formats.specs.Comparison.{first_format, second_format, AreNetlists}
use Rattle.equiv_formats.specs.ComparisonLaws.{lists_one, are_netlists, netlist_listed, netlist_of}
use Rattle.equiv_formats.specs.SmallLaws.{small_circuit}
use Rattle.match_core.specs.declared.lacking.Lack.{Lack}
use Rattle.match_core.specs.Matched.{ShareNames, matched}
use Rattle.match_core.specs.MatchedLaws as matching
use Rattle.match_core.specs.Lacks.{lack_of}
use Rattle.equiv_match.specs.declared.error.MatchError.{MatchError}
use Rattle.equiv_match.specs.declared.error.MatchError.TheVariants.{Refused, Lacks}
use Rattle.equiv_match.specs.MatchComparison.{IsMatchedAnswer, IsLacking, HasMatchFault, IsMatchRefused}
use Rattle.equiv_match.specs.OrderLaws.{ordered_in, ordered_is, CanOrder, can_order}
use Rattle.equiv_match.specs.ReadingLaws.{IsReadFirst, lack_same, IsChecked, IsLackOf, IsUnchecked, IsUncompared, passed}

-- ---- documents

names_same : (d : Document) (c : Circuit) → Describes d c → source_names d ≡ sources_of c
names_same d c of =
    ap (λ (ns : List Name). ns ++ map latch_output (latches_of d)) of.inputs
    ∙ ap (λ (ls : List Latch). c.inputs ++ map latch_output ls) of.latches

-- ---- the second in the order of the first

ok_one : (r : Result Listed NetError) (k l : Listed) → r ≡ Ok k → r ≡ Ok l → k ≡ l
ok_one r k l x y = cc

-- neither lacks a name of the other
names_shared : (p : FormatPair) (first second : List ℕ) (c : Circuit) → (of : IsCircuitOfText (first_format p) first c) →
    (is : IsChecked (second_format p) second c) → ShareNames of.listed.document is.of.listed.document
names_shared p first second c of is =
    matching.shared of.listed.document is.of.listed.document
    (sym (lack_same of.listed.document is.of.listed.document c is.circuit of.circuit.describes is.of.circuit.describes) ∙ is.none)

pub ready : (p : FormatPair) (first second : List ℕ) (c : Circuit) → length first ≤ most_of_two →
    IsCircuitOfText (first_format p) first c → IsChecked (second_format p) second c → (l : Listed) →
    (second_format p).listed second ≡ Ok l → CanOrder c l.document
ready p first second c short of is l said =
    subst (λ (x : Listed). CanOrder c x.document) (ok_one ((second_format p).listed second) is.of.listed l is.of.said said)
    (can_order p.first first c is.of.listed.document short of is.of.well (names_shared p first second c of is))

-- the circuit in this order is that of the matched document
pub ordered_of : (p : FormatPair) (first second : List ℕ) (c a : Circuit) → (of : IsCircuitOfText (first_format p) first c) →
    (is : IsChecked (second_format p) second c) →
    ((l : Listed) → (second_format p).listed second ≡ Ok l → IsCircuitOf (ordered_in c l.document) a) →
    IsCircuitOf (matched of.listed.document is.of.listed.document) a
ordered_of p first second c a of is each =
    subst (λ (d : Document). IsCircuitOf d a) (ordered_is of.listed.document is.of.listed.document c of.circuit.describes)
    (each is.of.listed is.of.said)

pub ordered_proper : (p : FormatPair) (first second : List ℕ) (c a : Circuit) → IsCircuitOfText (first_format p) first c →
    IsChecked (second_format p) second c →
    ((l : Listed) → (second_format p).listed second ≡ Ok l → IsCircuitOf (ordered_in c l.document) a) → IsProper a
ordered_proper p first second c a of is each = (ordered_of p first second c a of is each).proper

-- a circuit with as many sources and sinks is as small
small_as : (d e : Document) (c a : Circuit) → IsCircuitOf d c → IsCircuitOf e a → length (source_names e) ≡ length (source_names d) →
    length (map latch_output (latches_of e)) ≡ length (map latch_output (latches_of d)) → e.outputs ≡ d.outputs → IsSmall c.net →
    IsSmall a.net
small_as d e c a of_c of_a sources names outputs small =
    let one : length (sources_of c) ≡ length (source_names d) = sym (ap length (names_same d c of_c.describes)) in
    let other : length (sources_of a) ≡ length (source_names e) = sym (ap length (names_same e a of_a.describes)) in
    let ones : length (map latch_output (latches_of d)) ≡ length c.latches =
    length-map (latches_of d) latch_output ∙ ap length of_c.describes.latches in
    let others : length (map latch_output (latches_of e)) ≡ length a.latches =
    length-map (latches_of e) latch_output ∙ ap length of_a.describes.latches in
    let first : length d.outputs ≡ length c.outputs = ap length of_c.describes.outputs in
    let second : length e.outputs ≡ length a.outputs = ap length of_a.describes.outputs in
    let same : length e.outputs ≡ length d.outputs = ap length outputs in
    record {
      sources = omega (arith, one, other, sources, of_c.proper.source_count, of_a.proper.source_count, small.sources, small.sinks);
      sinks = omega (
        arith,
        ones,
        others,
        names,
        first,
        second,
        same,
        one,
        other,
        sources,
        of_c.proper.sink_count,
        of_a.proper.sink_count,
        of_c.proper.source_count,
        of_a.proper.source_count,
        small.sources,
        small.sinks,
      );
    }

-- it has as many sources and sinks
pub ordered_small : (p : FormatPair) (first second : List ℕ) (c a : Circuit) → length first ≤ most_of_two →
    IsCircuitOfText (first_format p) first c → IsChecked (second_format p) second c →
    ((l : Listed) → (second_format p).listed second ≡ Ok l → IsCircuitOf (ordered_in c l.document) a) → IsSmall a.net
ordered_small p first second c a short of is each =
    let d = of.listed.document in
    let e = is.of.listed.document in
    let share = names_shared p first second c of is in
    let own = ordered_of p first second c a of is each in
    let one : IsSmall c.net = small_circuit p.first first c short of in
    let sources = ap length (matching.matched_sources d e share) in
    let names = ap length (matching.matched_names d e share) in
    small_as d (matched d e) c a of.circuit own sources names refl one

-- ---- the answers

pub matched_answer : (p : FormatPair) (budget : ℕ) (first second : List ℕ) (c a : Circuit) (text : List ℕ) (told : Option (List ℕ)) (outcome : EquivOutcome) →
    IsCircuitOfText (first_format p) first c → IsChecked (second_format p) second c →
    ((l : Listed) → (second_format p).listed second ≡ Ok l → IsCircuitOf (ordered_in c l.document) a) →
    IsNamedCircuitAnswer budget c a text told outcome → IsMatchedAnswer p budget first second text told outcome
matched_answer p budget first second c a text told outcome of is each reported =
    let d = of.listed.document in
    let e = is.of.listed.document in
    let own = ordered_of p first second c a of is each in
    record {
      one = d;
      other = e;
      are = are_netlists p first second c is.circuit of is.of;
      names = names_shared p first second c of is;
      interface = shared d (matched d e) c a of.circuit.describes own.describes (named_interface budget c a text told outcome reported);
      reported = named_of budget d (matched d e) c a text told outcome of.circuit own reported;
    }

-- ---- the refusals

first_refused : (p : FormatPair) (first second : List ℕ) (e : MatchError) → IsReadFirst (first_format p) first e → IsMatchRefused p first second e
first_refused p first second (Refused NoSecond) refused = absurd refused
first_refused p first second (Refused (First e)) refused = refused
first_refused p first second (Refused (Second e)) refused = absurd refused
first_refused p first second (Refused DifferentInterface) refused = absurd refused
first_refused p first second (Refused Memory) refused = tt
first_refused p first second (Lacks lack) refused = absurd refused

pub lacking : (p : FormatPair) (first second : List ℕ) (c : Circuit) (lack : Lack) → IsCircuitOfText (first_format p) first c →
    IsLackOf (second_format p) second c lack → IsLacking p first second lack
lacking p first second c lack of is = record {
  one = of.listed.document;
  other = is.of.listed.document;
  are = are_netlists p first second c is.circuit of is.of;
  is = sym (lack_same of.listed.document is.of.listed.document c is.circuit of.circuit.describes is.of.circuit.describes) ∙ is.is;
}

unchecked_refused : (p : FormatPair) (first second : List ℕ) (c : Circuit) (e : MatchError) → IsCircuitOfText (first_format p) first c →
    IsUnchecked (second_format p) second c e → IsMatchRefused p first second e
unchecked_refused p first second c (Refused NoSecond) of refused = absurd refused
unchecked_refused p first second c (Refused (First e)) of refused = absurd refused
unchecked_refused p first second c (Refused (Second e)) of refused = record { first_is = netlist_of (first_format p) first c of; fault = refused }
unchecked_refused p first second c (Refused DifferentInterface) of refused = absurd refused
unchecked_refused p first second c (Refused Memory) of refused = tt
unchecked_refused p first second c (Lacks lack) of refused = lacking p first second c lack of refused

uncompared_refused : (p : FormatPair) (first second : List ℕ) (c a : Circuit) (e : MatchError) →
    (of : IsCircuitOfText (first_format p) first c) → (is : IsChecked (second_format p) second c) →
    ((l : Listed) → (second_format p).listed second ≡ Ok l → IsCircuitOf (ordered_in c l.document) a) → IsUncompared c a e →
    IsMatchRefused p first second e
uncompared_refused p first second c a (Refused NoSecond) of is each other = absurd other
uncompared_refused p first second c a (Refused (First e)) of is each other = absurd other
uncompared_refused p first second c a (Refused (Second e)) of is each other = absurd other
uncompared_refused p first second c a (Refused DifferentInterface) of is each other = record {
  one = of.listed.document;
  other = is.of.listed.document;
  are = are_netlists p first second c is.circuit of is.of;
  names = names_shared p first second c of is;
  differ = λ share. other (have_same of.listed.document (matched of.listed.document is.of.listed.document) c a
      of.circuit.describes (ordered_of p first second c a of is each).describes share);
}
uncompared_refused p first second c a (Refused Memory) of is each other = tt
uncompared_refused p first second c a (Lacks lack) of is each other = absurd other

pub first_passed : (p : FormatPair) (first second : List ℕ) (r : Result NamedTwo MatchError) (e : MatchError) →
    IsErrAnd r (λ d. d ≡ e) → IsReadFirst (first_format p) first e → IfErr r (IsMatchRefused p first second)
first_passed p first second r e is refused = passed (IsMatchRefused p first second) r e is (first_refused p first second e refused)

pub unchecked_passed : (p : FormatPair) (first second : List ℕ) (c : Circuit) (r : Result NamedTwo MatchError) (e : MatchError) →
    IsErrAnd r (λ d. d ≡ e) → IsCircuitOfText (first_format p) first c → IsUnchecked (second_format p) second c e →
    IfErr r (IsMatchRefused p first second)
unchecked_passed p first second c r e is of refused =
    passed (IsMatchRefused p first second) r e is (unchecked_refused p first second c e of refused)

pub uncompared_passed : (p : FormatPair) (first second : List ℕ) (c a : Circuit) (r : Result NamedTwo MatchError) (e : MatchError) →
    IsErrAnd r (λ d. d ≡ e) → IsCircuitOfText (first_format p) first c → IsChecked (second_format p) second c →
    ((l : Listed) → (second_format p).listed second ≡ Ok l → IsCircuitOf (ordered_in c l.document) a) → IsUncompared c a e →
    IfErr r (IsMatchRefused p first second)
uncompared_passed p first second c a r e is of checked each other =
    passed (IsMatchRefused p first second) r e is (uncompared_refused p first second c a e of checked each other)

-- ---- one answer or one fault

never : (k : NetFormat) (bytes : List ℕ) (e : NetError) → IsNetlist (format_of k) bytes → HasNetFault (format_of k) bytes e → ⊥
never k bytes e is fault = faults.fault_never (format_of k) bytes e (lists_well k) is fault

-- facts of two texts don't depend on how their documents are given
moved : (P : Document → Document → Type 0) (p : FormatPair) (first second : List ℕ) (d e d' e' : Document) →
    AreNetlists p first second d e → AreNetlists p first second d' e' → P d e → P d' e'
moved P p first second d e d' e' x y holds =
    subst (λ (z : Document). P d' z) (lists_one (second_format p) second e e' x.second_is y.second_is)
    (subst (λ (z : Document). P z e) (lists_one (first_format p) first d d' x.first_is y.first_is) holds)

both : (r : Option Lack) (lack : Lack) → r ≡ Some lack → r ≡ None → ⊥
both r lack x y = let e : Some lack ≡ None = sym x ∙ y in cc

some_one : (r : Option Lack) (a b : Lack) → r ≡ Some a → r ≡ Some b → a ≡ b
some_one r a b x y = cc

none_of : (d e : Document) → ShareNames d e → lack_of d e ≡ None
none_of d e share = (matching.none_lacks d e).1 share

-- where neither lacks a name, none is lacking
shared_lacking : (p : FormatPair) (first second : List ℕ) (d e : Document) (lack : Lack) → AreNetlists p first second d e →
    ShareNames d e → IsLacking p first second lack → ⊥
shared_lacking p first second d e lack are share fault =
    both (lack_of fault.one fault.other) lack fault.is
    (moved (λ x y. lack_of x y ≡ None) p first second d e fault.one fault.other are fault.are (none_of d e share))

-- netlists that can be compared have no fault
sound : (p : FormatPair) (first second : List ℕ) (d e : Document) (error : MatchError) → AreNetlists p first second d e →
    ShareNames d e → ShareInterface d (matched d e) → HasMatchFault p first second error → ⊥
sound p first second d e (Refused NoSecond) are share same fault = fault
sound p first second d e (Refused (First x)) are share same fault =
    never p.first first x (netlist_listed (first_format p) first d are.first_is) fault
sound p first second d e (Refused (Second x)) are share same fault =
    never p.second second x (netlist_listed (second_format p) second e are.second_is) fault.fault
sound p first second d e (Refused DifferentInterface) are share same fault =
    fault.differ (moved (λ x y. ShareInterface x (matched x y)) p first second d e fault.one fault.other are fault.are same)
sound p first second d e (Refused Memory) are share same fault = fault
sound p first second d e (Lacks lack) are share same fault = shared_lacking p first second d e lack are share fault

pub matched_apart : (p : FormatPair) (budget : ℕ) (first second text : List ℕ) (told : Option (List ℕ)) (outcome : EquivOutcome) (error : MatchError) →
    IsMatchedAnswer p budget first second text told outcome → HasMatchFault p first second error → ⊥
matched_apart p budget first second text told outcome error is fault =
    sound p first second is.one is.other error is.are is.names is.interface fault

-- both texts are netlists where a name or an interface is at fault
first_netlist : (p : FormatPair) (first second : List ℕ) (d e : Document) → AreNetlists p first second d e → IsNetlist (first_format p) first
first_netlist p first second d e are = netlist_listed (first_format p) first d are.first_is

second_netlist : (p : FormatPair) (first second : List ℕ) (d e : Document) → AreNetlists p first second d e → IsNetlist (second_format p) second
second_netlist p first second d e are = netlist_listed (second_format p) second e are.second_is

lack_one : (p : FormatPair) (first second : List ℕ) (a b : Lack) → IsLacking p first second a → IsLacking p first second b → a ≡ b
lack_one p first second a b x y =
    some_one (lack_of y.one y.other) a b
    (moved (λ d e. lack_of d e ≡ Some a) p first second x.one x.other y.one y.other x.are y.are x.is) y.is

pub matched_one : (p : FormatPair) (first second : List ℕ) (a b : MatchError) → HasMatchFault p first second a → HasMatchFault p first second b → a ≡ b
matched_one p first second (Refused (First a)) (Refused (First b)) x y = ap (λ e. Refused (First e)) (faults.fault_one (first_format p) first a b x y)
matched_one p first second (Refused (First a)) (Refused (Second b)) x y = absurd (never p.first first a y.first_is x)
matched_one p first second (Refused (First a)) (Refused DifferentInterface) x y = absurd (never p.first first a (first_netlist p first second y.one y.other y.are) x)
matched_one p first second (Refused (First a)) (Lacks l) x y = absurd (never p.first first a (first_netlist p first second y.one y.other y.are) x)
matched_one p first second (Refused (Second a)) (Refused (First b)) x y = absurd (never p.first first b x.first_is y)
matched_one p first second (Refused (Second a)) (Refused (Second b)) x y = ap (λ e. Refused (Second e)) (faults.fault_one (second_format p) second a b x.fault y.fault)
matched_one p first second (Refused (Second a)) (Refused DifferentInterface) x y = absurd (never p.second second a (second_netlist p first second y.one y.other y.are) x.fault)
matched_one p first second (Refused (Second a)) (Lacks l) x y = absurd (never p.second second a (second_netlist p first second y.one y.other y.are) x.fault)
matched_one p first second (Refused DifferentInterface) (Refused (First b)) x y = absurd (never p.first first b (first_netlist p first second x.one x.other x.are) y)
matched_one p first second (Refused DifferentInterface) (Refused (Second b)) x y = absurd (never p.second second b (second_netlist p first second x.one x.other x.are) y.fault)
matched_one p first second (Refused DifferentInterface) (Refused DifferentInterface) x y = refl
matched_one p first second (Refused DifferentInterface) (Lacks l) x y = absurd (shared_lacking p first second x.one x.other l x.are x.names y)
matched_one p first second (Lacks l) (Refused (First b)) x y = absurd (never p.first first b (first_netlist p first second x.one x.other x.are) y)
matched_one p first second (Lacks l) (Refused (Second b)) x y = absurd (never p.second second b (second_netlist p first second x.one x.other x.are) y.fault)
matched_one p first second (Lacks l) (Refused DifferentInterface) x y = absurd (shared_lacking p first second y.one y.other l y.are y.names x)
matched_one p first second (Lacks l) (Lacks m) x y = ap Lacks (lack_one p first second l m x y)
matched_one p first second (Refused NoSecond) b x y = absurd x
matched_one p first second (Refused Memory) b x y = absurd x
matched_one p first second a (Refused NoSecond) x y = absurd y
matched_one p first second a (Refused Memory) x y = absurd y

-- a refusal other than out of memory is a fault
pub matched_fault : (p : FormatPair) (first second : List ℕ) (e : MatchError) → IsMatchRefused p first second e →
    (e ≡ Refused Memory → ⊥) → HasMatchFault p first second e
matched_fault p first second (Refused NoSecond) is other = is
matched_fault p first second (Refused (First e)) is other = is
matched_fault p first second (Refused (Second e)) is other = is
matched_fault p first second (Refused DifferentInterface) is other = is
matched_fault p first second (Refused Memory) is other = absurd (other refl)
matched_fault p first second (Lacks lack) is other = is
