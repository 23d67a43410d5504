-- What was found for two circuits holds of the texts that they were read from.
use Rattle.std.specs.Prelude.{◌≡◌, ℕ, Bool, true, false, List, ◌++◌, length, map, Result, Ok, Err, IsErrAnd, IfErr}
use Rattle.std.proofs.Common.{sym, ap, subst, ◌∙◌}
use Rattle.net_theory.specs.Document.{Name, Latch, Document, latches_of, latch_output, source_names}
use Rattle.net_theory.specs.Net.{bit_of, sink_values}
use Rattle.net_theory.specs.Circuit.{Circuit, IsProper, Describes, sources_of}
use Rattle.net_document.specs.Format.{IsCircuitOfText}
use Rattle.format_names.specs.declared.formats.FormatPair.{FormatPair}
use Rattle.equiv_theory.specs.Counterexample.{HaveSameInterface}
use Rattle.equiv_run.specs.declared.answer.CompareError.{CompareError}
use Rattle.equiv_run.specs.declared.answer.CompareError.TheVariants.{NoSecond, First, Second, DifferentInterface, Memory}
use Rattle.equiv_run.specs.CircuitAnswers.{IsOther}
use Rattle.equiv_run.specs.PairLaws.{shared, have_same}
use Rattle.equiv_run.specs.NameBits.{has_assignment, values_are}
use Rattle.equiv_formats.specs.Comparison.{first_format, second_format, share_sections, ShareSections, IsFormatsRefused, IsFirstRefused, IsSecondRefused, AreSectionsRefused}
use Rattle.equiv_formats.specs.ComparisonLaws.{are_netlists, netlist_of}
use Rattle.cmd_at.specs.declared.circuits.Valued.{Valued}
use Rattle.cmd_at.specs.declared.circuits.Valued.TheVariants.{Text, Miscounted}
use Rattle.cmd_at.specs.AtText.{values_text}
use Rattle.cmd_at.specs.AtReport.{IsCircuitText, AreMiscounted, IsCircuitValued, HasValues, IsValuesText, IsOtherCount, IsValued}

-- ---- documents

names_same : (d : Document) (c : Circuit) → Describes d c → source_names d ≡ sources_of c
names_same d c of =
    ap (λ (ns : List Name). ns ++ map latch_output (latches_of d)) of.inputs
    ∙ ap (λ (ls : List Latch). c.inputs ++ map latch_output ls) of.latches

sources_same : (c k : Circuit) → HaveSameInterface c k → sources_of c ≡ sources_of k
sources_same c k same =
    ap (λ (ns : List Name). ns ++ map latch_output c.latches) same.inputs
    ∙ ap (λ (ls : List Latch). k.inputs ++ map latch_output ls) same.latches

-- ---- values

-- the values of a document are those of its circuit's net
values_of : (d : Document) (c : Circuit) (bits : List Bool) → IsProper c → Describes d c → length bits ≡ length (sources_of c) →
    HasValues d bits (sink_values c.net (bit_of bits))
values_of d c bits of describes long = record {
  has_one = describes.one;
  some = subst (λ (ns : List Name). (given : Name → Bool) × (map given ns ≡ bits)) (sym (names_same d c describes))
      (has_assignment (sources_of c) bits of.distinct long);
  are = λ given v is maps. describes.sinks given v maps
      ∙ values_are c given bits of (ap (map given) (sym (names_same d c describes)) ∙ is);
}

text_found : (p : FormatPair) (bits : List Bool) (first second : List ℕ) (c k : Circuit) (text : List ℕ) →
    IsCircuitOfText (first_format p) first c → IsCircuitOfText (second_format p) second k → ShareSections p first second →
    IsCircuitText c k bits text → IsValuesText p bits first second text
text_found p bits first second c k text of_c of_k sections found =
    let d = of_c.listed.document in
    let long : length bits ≡ length (sources_of c) = found.each_source ∙ of_c.circuit.proper.source_count in
    record {
      one = d;
      other = of_k.listed.document;
      netlists = are_netlists p first second c k of_c of_k;
      interface = shared d of_k.listed.document c k of_c.circuit.describes of_k.circuit.describes found.interface;
      sections = sections;
      ones = sink_values c.net (bit_of bits);
      others = sink_values k.net (bit_of bits);
      first_values = values_of d c bits of_c.circuit.proper of_c.circuit.describes long;
      second_values = values_of of_k.listed.document k bits of_k.circuit.proper of_k.circuit.describes
          (long ∙ ap length (sources_same c k found.interface));
      same = found.same;
      same_is = found.same_is;
      is = found.is
          ∙ ap (λ (ns : List Name). values_text ns c.outputs c.latches found.same bits (sink_values c.net (bit_of bits)) (sink_values k.net (bit_of bits)))
          (sym (names_same d c of_c.circuit.describes))
          ∙ ap (λ (ns : List Name). values_text (source_names d) ns c.latches found.same bits (sink_values c.net (bit_of bits)) (sink_values k.net (bit_of bits)))
          (sym of_c.circuit.describes.outputs)
          ∙ ap (λ (ls : List Latch). values_text (source_names d) d.outputs ls found.same bits (sink_values c.net (bit_of bits)) (sink_values k.net (bit_of bits)))
          (sym of_c.circuit.describes.latches);
    }

count_found : (p : FormatPair) (bits : List Bool) (first second : List ℕ) (c k : Circuit) (count : ℕ) →
    IsCircuitOfText (first_format p) first c → IsCircuitOfText (second_format p) second k → ShareSections p first second →
    AreMiscounted c k bits count → IsOtherCount p bits first second count
count_found p bits first second c k count of_c of_k sections found = record {
  one = of_c.listed.document;
  other = of_k.listed.document;
  netlists = are_netlists p first second c k of_c of_k;
  interface = shared of_c.listed.document of_k.listed.document c k of_c.circuit.describes of_k.circuit.describes found.interface;
  sections = sections;
  counted = ap length (names_same of_c.listed.document c of_c.circuit.describes) ∙ sym of_c.circuit.proper.source_count ∙ found.counted;
  apart = found.other;
}

pub valued_found : (p : FormatPair) (bits : List Bool) (first second : List ℕ) (c k : Circuit) (valued : Valued) →
    IsCircuitOfText (first_format p) first c → IsCircuitOfText (second_format p) second k →
    ShareSections p first second → IsCircuitValued c k bits valued → IsValued p bits first second valued
valued_found p bits first second c k (Text text) of_c of_k sections found = text_found p bits first second c k text.items of_c of_k sections found
valued_found p bits first second c k (Miscounted count) of_c of_k sections found = count_found p bits first second c k count of_c of_k sections found

-- ---- the refusals

first_refused : (p : FormatPair) (first second : List ℕ) (e : CompareError) → IsFirstRefused (first_format p) first e →
    IsFormatsRefused p first second e
first_refused p first second NoSecond refused = absurd refused
first_refused p first second (First e) refused = refused
first_refused p first second (Second e) refused = absurd refused
first_refused p first second DifferentInterface refused = absurd refused
first_refused p first second Memory refused = tt

second_refused : (p : FormatPair) (first second : List ℕ) (c : Circuit) (e : CompareError) →
    IsCircuitOfText (first_format p) first c → IsSecondRefused (second_format p) second e →
    IsFormatsRefused p first second e
second_refused p first second c NoSecond of refused = absurd refused
second_refused p first second c (First e) of refused = absurd refused
second_refused p first second c (Second e) of refused =
    record { first_is = netlist_of (first_format p) first c of; fault = refused }
second_refused p first second c DifferentInterface of refused = absurd refused
second_refused p first second c Memory of refused = tt

other_refused : (p : FormatPair) (first second : List ℕ) (c k : Circuit) (e : CompareError) →
    IsCircuitOfText (first_format p) first c → IsCircuitOfText (second_format p) second k → IsOther c k e →
    IsFormatsRefused p first second e
other_refused p first second c k NoSecond of_c of_k other = absurd other
other_refused p first second c k (First e) of_c of_k other = absurd other
other_refused p first second c k (Second e) of_c of_k other = absurd other
other_refused p first second c k DifferentInterface of_c of_k other = record {
  one = of_c.listed.document;
  other = of_k.listed.document;
  are = are_netlists p first second c k of_c of_k;
  differ = λ share sections. other (have_same of_c.listed.document of_k.listed.document c k of_c.circuit.describes of_k.circuit.describes share);
}
other_refused p first second c k Memory of_c of_k other = tt

false_or_true : (b : Bool) → b ≡ false → b ≡ true → ⊥
false_or_true b isnt is = let e : true ≡ false = sym is ∙ isnt in cc

sections_refused : (p : FormatPair) (first second : List ℕ) (c k : Circuit) (e : CompareError) →
    IsCircuitOfText (first_format p) first c → IsCircuitOfText (second_format p) second k →
    AreSectionsRefused p first second e → IsFormatsRefused p first second e
sections_refused p first second c k NoSecond of_c of_k refused = absurd refused
sections_refused p first second c k (First e) of_c of_k refused = absurd refused
sections_refused p first second c k (Second e) of_c of_k refused = absurd refused
sections_refused p first second c k DifferentInterface of_c of_k refused = record {
  one = of_c.listed.document;
  other = of_k.listed.document;
  are = are_netlists p first second c k of_c of_k;
  differ = λ share sections. false_or_true (share_sections p.first p.second first second) refused sections;
}
sections_refused p first second c k Memory of_c of_k refused = tt

-- an error that is passed on
passed : {T : Type 0} (P : CompareError → Type 0) (r : Result T CompareError) (e : CompareError) →
    IsErrAnd r (λ d. d ≡ e) → P e → IfErr r P
passed P (Ok x) e is holds = tt
passed P (Err d) e is holds = subst P (sym is) holds

pub first_passed : {T : Type 0} (p : FormatPair) (first second : List ℕ) (r : Result T CompareError) (e : CompareError) →
    IsErrAnd r (λ d. d ≡ e) → IsFirstRefused (first_format p) first e → IfErr r (IsFormatsRefused p first second)
first_passed p first second r e is refused =
    passed (IsFormatsRefused p first second) r e is (first_refused p first second e refused)

pub second_passed : {T : Type 0} (p : FormatPair) (first second : List ℕ) (c : Circuit) (r : Result T CompareError)
    (e : CompareError) → IsErrAnd r (λ d. d ≡ e) → IsCircuitOfText (first_format p) first c →
    IsSecondRefused (second_format p) second e → IfErr r (IsFormatsRefused p first second)
second_passed p first second c r e is of refused =
    passed (IsFormatsRefused p first second) r e is (second_refused p first second c e of refused)

pub other_passed : {T : Type 0} (p : FormatPair) (first second : List ℕ) (c k : Circuit) (r : Result T CompareError)
    (e : CompareError) → IsErrAnd r (λ d. d ≡ e) → IsCircuitOfText (first_format p) first c →
    IsCircuitOfText (second_format p) second k → IsOther c k e → IfErr r (IsFormatsRefused p first second)
other_passed p first second c k r e is of_c of_k other =
    passed (IsFormatsRefused p first second) r e is (other_refused p first second c k e of_c of_k other)

pub sections_passed : {T : Type 0} (p : FormatPair) (first second : List ℕ) (c k : Circuit) (r : Result T CompareError)
    (e : CompareError) → IsErrAnd r (λ d. d ≡ e) → IsCircuitOfText (first_format p) first c →
    IsCircuitOfText (second_format p) second k → AreSectionsRefused p first second e →
    IfErr r (IsFormatsRefused p first second)
sections_passed p first second c k r e is of_c of_k refused =
    passed (IsFormatsRefused p first second) r e is (sections_refused p first second c k e of_c of_k refused)
