-- An answer for two circuits is one for the texts that they were read from; a text has an answer or at most one
-- fault.
use Rattle.std.specs.Prelude.{◌≡◌, ℕ, ◌+◌, ◌-◌, Bool, false, List, ◌++◌, length, map, take, drop, slice_index_or, Option, Some, None, Result, Ok, Err, IsErrAnd, IfErr, refl, ◌≤◌}
use Rattle.std.proofs.Common.{arith, ap, sym, ◌∙◌, subst, length-append}
use Rattle.std.proofs.lemmas.List.{length-map}
use Rattle.net_theory.specs.Document.{Name, Document, Latch, latch_output, latches_of, source_names, sink_names}
use Rattle.net_theory.specs.Behaviour.{IsValuationOf}
use Rattle.net_theory.specs.WellFormed.{IsWellFormed}
use Rattle.net_theory.specs.Net.{bit_of, sink_values}
use Rattle.net_theory.specs.Circuit.{Circuit, IsProper, Describes, IsCircuitOf, sources_of}
use Rattle.net_theory.specs.Cost.{cost}
use Rattle.net_core.specs.declared.error.NetError.{NetError}
use Rattle.net_document.specs.Listed.{Listed}
use Rattle.net_document.specs.Format.{IsNetlist, IsCircuitOfText, HasNetFault}
use Rattle.net_document.specs.FormatLaws as faults
use Rattle.net_document.specs.EquivalenceLaws.{equivalent_same}
use Rattle.blif_text.specs.ListingLaws.{texts_list}
use Rattle.blif_core.specs.Blif.{blif_format}
use Rattle.equiv_theory.specs.Counterexample.{HaveSameInterface, IsCounterexample, sink_bit}
use Rattle.equiv_run.specs.declared.answer.EquivOutcome.{EquivOutcome}
use Rattle.equiv_run.specs.declared.answer.EquivOutcome.TheVariants.{Equal, Differ, Undecided}
use Rattle.equiv_run.specs.declared.answer.CompareError.{CompareError}
use Rattle.equiv_run.specs.declared.answer.CompareError.TheVariants.{NoSecond, First, Second, DifferentInterface, Memory}
use Rattle.equiv_run.specs.declared.answer.Compared.{Compared}
use Rattle.equiv_run.specs.Split.{split_of}
use Rattle.equiv_run.specs.Texts.{differ_text}
use Rattle.equiv_run.specs.Pairs.{Lists, AreTwo, ShareInterface, sink_in, DocumentsDiffer, IsDocumentAnswer, IsAnswer, HasFirstFault, HasSecondFault, HasPairFault, IsRefusedPair}
use Rattle.equiv_run.specs.CircuitAnswers.{IsCircuitAnswer, IsOther, IsSecondRefused}
use Rattle.equiv_run.specs.NameBits.{has_assignment, values_are}

-- ---- interfaces

pub shared : (d e : Document) (c k : Circuit) → Describes d c → Describes e k → HaveSameInterface c k → ShareInterface d e
shared d e c k of_d of_e same = record {
  inputs = of_d.inputs ∙ same.inputs ∙ sym of_e.inputs;
  outputs = of_d.outputs ∙ same.outputs ∙ sym of_e.outputs;
  clocks = of_d.clocks ∙ same.clocks ∙ sym of_e.clocks;
  latches = of_d.latches ∙ same.latches ∙ sym of_e.latches;
}

pub have_same : (d e : Document) (c k : Circuit) → Describes d c → Describes e k → ShareInterface d e → HaveSameInterface c k
have_same d e c k of_d of_e same = record {
  inputs = sym of_d.inputs ∙ same.inputs ∙ of_e.inputs;
  outputs = sym of_d.outputs ∙ same.outputs ∙ of_e.outputs;
  clocks = sym of_d.clocks ∙ same.clocks ∙ of_e.clocks;
  latches = sym of_d.latches ∙ same.latches ∙ of_e.latches;
}

names_same : (d : Document) (c : Circuit) → Describes d c → source_names d ≡ sources_of c
names_same d c of = ap (λ (ns : List Name). ns ++ map latch_output (latches_of d)) of.inputs ∙ ap (λ (ls : List Latch). c.inputs ++ map latch_output ls) of.latches

sources_same : (c k : Circuit) → HaveSameInterface c k → sources_of c ≡ sources_of k
sources_same c k same = ap (λ (ns : List Name). ns ++ map latch_output c.latches) same.inputs ∙ ap (λ (ls : List Latch). k.inputs ++ map latch_output ls) same.latches

-- ---- differences

-- the values of a map at the sinks are those of the net
map_values : (d : Document) (c : Circuit) (given v : Name → Bool) (bits : List Bool) → IsProper c → Describes d c →
    map given (sources_of c) ≡ bits → IsValuationOf d given v → map v (sink_names d) ≡ sink_values c.net (bit_of bits)
map_values d c given v bits of describes is maps = describes.sinks given v maps ∙ values_are c given bits of is

sinks_counted : (d : Document) (c : Circuit) → IsProper c → Describes d c → length (sink_names d) ≡ length c.net.sinks
sinks_counted d c of describes =
    let outputs : length d.outputs ≡ length c.outputs = ap length describes.outputs in
    let latches : length (latches_of d) ≡ length c.latches = ap length describes.latches in
    let one : length (latches_of d) ≡ length d.latches = length-map d.latches _ in
    let two : length (sink_names d) ≡ length d.outputs + length d.latches = length-append d.outputs _ ∙ ap (λ (n : ℕ). length d.outputs + n) (length-map d.latches _) in
    omega (arith, outputs, latches, one, two, of.sink_count)

documents_differ : (d e : Document) (c k : Circuit) (sink : ℕ) (bits : List Bool) → IsProper c → IsProper k →
    Describes d c → Describes e k → HaveSameInterface c k → IsCounterexample c.net k.net sink bits →
    DocumentsDiffer d e sink bits
documents_differ d e c k sink bits of_c of_k of_d of_e same first = record {
  first_has_one = of_d.one;
  second_has_one = of_e.one;
  each_source = first.each_source ∙ of_c.source_count ∙ ap length (sym (names_same d c of_d));
  counted = first.counted;
  below = omega (arith, first.first_sink.here.below, first.counted, sinks_counted d c of_c of_d);
  some = subst (λ (ns : List Name). (given : Name → Bool) × (map given ns ≡ bits)) (sym (names_same d c of_d))
      (has_assignment (sources_of c) bits of_c.distinct (first.each_source ∙ of_c.source_count));
  differ = λ given v w is maps_v maps_w equal. first.first_sink.here.differ (sym (at given v is maps_v (sink - 1)) ∙ equal ∙ at' given w is maps_w (sink - 1));
  least = λ given v w is maps_v maps_w j before. at given v is maps_v j ∙ first.first_sink.least j before ∙ sym (at' given w is maps_w j);
} where
  at : (given v : Name → Bool) → map given (source_names d) ≡ bits → IsValuationOf d given v → (i : ℕ) → sink_in d v i ≡ sink_bit c.net (bit_of bits) i
  at given v is maps i = ap (λ (bs : List Bool). slice_index_or bs i false) (map_values d c given v bits of_c of_d (ap (map given) (sym (names_same d c of_d)) ∙ is) maps)

  at' : (given w : Name → Bool) → map given (source_names d) ≡ bits → IsValuationOf e given w → (i : ℕ) → sink_in e w i ≡ sink_bit k.net (bit_of bits) i
  at' given w is maps i = ap (λ (bs : List Bool). slice_index_or bs i false)
      (map_values e k given w bits of_k of_e (ap (map given) (sym (sources_same c k same))
      ∙ ap (map given) (sym (names_same d c of_d)) ∙ is) maps)

-- ---- the answers

pub lists_of : (bytes : List ℕ) (c : Circuit) → (of : IsCircuitOfText blif_format bytes c) → Lists bytes of.listed.document
lists_of bytes c of = record {
  listed = of.listed;
  said = of.said;
  is = refl;
  within = faults.text_within blif_format bytes c of;
  well = of.well;
}

pub answered_of : (budget : ℕ) (d e : Document) (c k : Circuit) (text : List ℕ) (outcome : EquivOutcome) →
    IsCircuitOf d c → IsCircuitOf e k → IsCircuitAnswer budget c k text outcome →
    IsDocumentAnswer budget d e text outcome
answered_of budget d e c k text Equal of_d of_e reported = record {
  same = equivalent_same d e c k of_d.describes of_e.describes reported.equivalent;
  first = c.net;
  second = k.net;
  nets = record { first_is = of_d.net; second_is = of_e.net };
  lines = reported.lines;
  refutes = reported.refutes;
  live_bounded = reported.live_bounded;
  within_budget = reported.within_budget;
  text_is = reported.text_is;
}
answered_of budget d e c k text Differ of_d of_e reported = record {
  sink = reported.sink;
  bits = reported.bits;
  differ = documents_differ d e c k reported.sink reported.bits of_d.proper of_e.proper of_d.describes of_e.describes reported.interface reported.differ;
  text_is = reported.text_is ∙ ap (λ (ns : List Name). differ_text ns c.latches reported.sink reported.bits)
      (sym of_d.describes.outputs) ∙ ap (λ (ls : List Latch). differ_text d.outputs ls reported.sink reported.bits)
      (sym of_d.describes.latches);
}
answered_of budget d e c k text Undecided of_d of_e reported = record {
  first = c.net;
  second = k.net;
  nets = record { first_is = of_d.net; second_is = of_e.net };
  lines = reported.lines;
  spent = reported.spent;
  kept = reported.kept;
  live_bounded = reported.live_bounded;
  within_budget = reported.within_budget;
  small = reported.small;
  text_is = reported.text_is;
}

pub interface_of : (budget : ℕ) (c k : Circuit) (text : List ℕ) (outcome : EquivOutcome) → IsCircuitAnswer budget c k text outcome → HaveSameInterface c k
interface_of budget c k text Equal reported = reported.interface
interface_of budget c k text Differ reported = reported.interface
interface_of budget c k text Undecided reported = reported.interface

two_of : (bytes : List ℕ) (place : ℕ) (c k : Circuit) → split_of bytes ≡ Some place →
    (of_c : IsCircuitOfText blif_format (take place bytes) c) →
    (of_k : IsCircuitOfText blif_format (drop place bytes) k) → AreTwo bytes of_c.listed.document of_k.listed.document
two_of bytes place c k parted of_c of_k = record { place = place; parted = parted; first = lists_of (take place bytes) c of_c; second = lists_of (drop place bytes) k of_k }

pub answer_of : (budget : ℕ) (bytes : List ℕ) (place : ℕ) (c k : Circuit) (text : List ℕ) (outcome : EquivOutcome) →
    split_of bytes ≡ Some place → IsCircuitOfText blif_format (take place bytes) c →
    IsCircuitOfText blif_format (drop place bytes) k → IsCircuitAnswer budget c k text outcome →
    IsAnswer budget bytes text outcome
answer_of budget bytes place c k text outcome parted of_c of_k reported = record {
  first = of_c.listed.document;
  second = of_k.listed.document;
  two = two_of bytes place c k parted of_c of_k;
  interface = shared of_c.listed.document of_k.listed.document c k of_c.circuit.describes of_k.circuit.describes (interface_of budget c k text outcome reported);
  reported = answered_of budget of_c.listed.document of_k.listed.document c k text outcome of_c.circuit of_k.circuit reported;
}

-- ---- the refusals

pub other_refused : (bytes : List ℕ) (place : ℕ) (c k : Circuit) (e : CompareError) → split_of bytes ≡ Some place →
    IsCircuitOfText blif_format (take place bytes) c → IsCircuitOfText blif_format (drop place bytes) k →
    IsOther c k e → IsRefusedPair bytes e
other_refused bytes place c k DifferentInterface parted of_c of_k other = record {
  first = of_c.listed.document;
  second = of_k.listed.document;
  two = two_of bytes place c k parted of_c of_k;
  other = λ share. other (have_same of_c.listed.document of_k.listed.document c k of_c.circuit.describes of_k.circuit.describes share);
}
other_refused bytes place c k Memory parted of_c of_k other = tt
other_refused bytes place c k NoSecond parted of_c of_k other = absurd other
other_refused bytes place c k (First e) parted of_c of_k other = absurd other
other_refused bytes place c k (Second e) parted of_c of_k other = absurd other

-- an error that is passed on
pub error_other : (bytes : List ℕ) (place : ℕ) (c k : Circuit) (r : Result Compared CompareError) (e : CompareError) →
    IsErrAnd r (λ d. d ≡ e) → split_of bytes ≡ Some place → IsCircuitOfText blif_format (take place bytes) c →
    IsCircuitOfText blif_format (drop place bytes) k → IsOther c k e → IfErr r (IsRefusedPair bytes)
error_other bytes place c k (Ok x) e is parted of_c of_k other = tt
error_other bytes place c k (Err d) e is parted of_c of_k other = rw is (other_refused bytes place c k e parted of_c of_k other)

-- a fault of the second text, where the first one is a netlist
second_refused : (bytes : List ℕ) (place : ℕ) (c : Circuit) (e : CompareError) → split_of bytes ≡ Some place →
    IsCircuitOfText blif_format (take place bytes) c → IsSecondRefused (drop place bytes) e → IsRefusedPair bytes e
second_refused bytes place c (Second e) parted of refused = record {
  place = place;
  parted = parted;
  first = faults.text_netlist blif_format (take place bytes) c of;
  fault = refused;
}
second_refused bytes place c Memory parted of refused = tt
second_refused bytes place c NoSecond parted of refused = absurd refused
second_refused bytes place c (First e) parted of refused = absurd refused
second_refused bytes place c DifferentInterface parted of refused = absurd refused

-- which is passed on
pub error_second : (bytes : List ℕ) (place : ℕ) (c : Circuit) (r : Result Compared CompareError) (e : CompareError) →
    IsErrAnd r (λ d. d ≡ e) → split_of bytes ≡ Some place → IsCircuitOfText blif_format (take place bytes) c →
    IsSecondRefused (drop place bytes) e → IfErr r (IsRefusedPair bytes)
error_second bytes place c (Ok x) e is parted of refused = tt
error_second bytes place c (Err d) e is parted of refused = rw is (second_refused bytes place c e parted of refused)

-- ---- one answer or one fault

place_one : (r : Option ℕ) (p q : ℕ) → r ≡ Some p → r ≡ Some q → p ≡ q
place_one r p q x y = cc

place_none : (r : Option ℕ) (p : ℕ) → r ≡ None → r ≡ Some p → ⊥
place_none r p x y = let e : None ≡ Some p = sym x ∙ y in cc

pub netlist_listed : (bytes : List ℕ) (d : Document) → Lists bytes d → IsNetlist blif_format bytes
netlist_listed bytes d lists = record {
  listed = lists.listed;
  said = lists.said;
  within = subst (λ (x : Document). cost x ≤ blif_format.most) (sym lists.is) lists.within;
  well = subst (λ (x : Document). IsWellFormed x) (sym lists.is) lists.well;
}

never : (bytes : List ℕ) (e : NetError) → IsNetlist blif_format bytes → HasNetFault blif_format bytes e → ⊥
never bytes e is fault = faults.fault_never blif_format bytes e texts_list is fault

-- two netlists have no fault but different interfaces
two_never_first : (bytes : List ℕ) (d e : Document) (x : NetError) → AreTwo bytes d e → HasFirstFault bytes x → ⊥
two_never_first bytes d e x two fault =
    never (take two.place bytes) x (netlist_listed (take two.place bytes) d two.first)
    (subst (λ (p : ℕ). HasNetFault blif_format (take p bytes) x) (place_one (split_of bytes) fault.place two.place fault.parted two.parted) fault.fault)

two_never_second : (bytes : List ℕ) (d e : Document) (x : NetError) → AreTwo bytes d e → HasSecondFault bytes x → ⊥
two_never_second bytes d e x two fault =
    never (drop two.place bytes) x (netlist_listed (drop two.place bytes) e two.second)
    (subst (λ (p : ℕ). HasNetFault blif_format (drop p bytes) x) (place_one (split_of bytes) fault.place two.place fault.parted two.parted) fault.fault)

-- a text has one document
ok_one : (r : Result Listed NetError) (k l : Listed) → r ≡ Ok k → r ≡ Ok l → k ≡ l
ok_one r k l x y = cc

pub lists_one : (bytes : List ℕ) (d e : Document) → Lists bytes d → Lists bytes e → d ≡ e
lists_one bytes d e x y = sym x.is ∙ ap (λ (l : Listed). l.document) (ok_one (blif_format.listed bytes) x.listed y.listed x.said y.said) ∙ y.is

two_share : (bytes : List ℕ) (d e d' e' : Document) → AreTwo bytes d e → AreTwo bytes d' e' → ShareInterface d e → ShareInterface d' e'
two_share bytes d e d' e' x y share =
    let place : x.place ≡ y.place = place_one (split_of bytes) x.place y.place x.parted y.parted in
    let first : d ≡ d' = lists_one (take y.place bytes) d d' (subst (λ (p : ℕ). Lists (take p bytes) d) place x.first) y.first in
    let second : e ≡ e' = lists_one (drop y.place bytes) e e' (subst (λ (p : ℕ). Lists (drop p bytes) e) place x.second) y.second in
    subst (λ (z : Document). ShareInterface d' z) second (subst (λ (z : Document). ShareInterface z e) first share)

-- two netlists of one interface have no fault
pub two_never : (bytes : List ℕ) (d k : Document) (e : CompareError) → AreTwo bytes d k → ShareInterface d k → HasPairFault bytes e → ⊥
two_never bytes d k NoSecond two share fault = place_none (split_of bytes) two.place fault two.parted
two_never bytes d k (First x) two share fault = two_never_first bytes d k x two fault
two_never bytes d k (Second x) two share fault = two_never_second bytes d k x two fault
two_never bytes d k DifferentInterface two share fault = fault.other (two_share bytes d k fault.first fault.second two fault.two share)
two_never bytes d k Memory two share fault = absurd fault

pub answer_never : (budget : ℕ) (bytes text : List ℕ) (outcome : EquivOutcome) (e : CompareError) → IsAnswer budget bytes text outcome → HasPairFault bytes e → ⊥
answer_never budget bytes text outcome e is fault = two_never bytes is.first is.second e is.two is.interface fault

first_one : (bytes : List ℕ) (a b : NetError) → HasFirstFault bytes a → HasFirstFault bytes b → a ≡ b
first_one bytes a b x y = faults.fault_one blif_format (take y.place bytes) a b
    (subst (λ (p : ℕ). HasNetFault blif_format (take p bytes) a)
    (place_one (split_of bytes) x.place y.place x.parted y.parted) x.fault) y.fault

second_one : (bytes : List ℕ) (a b : NetError) → HasSecondFault bytes a → HasSecondFault bytes b → a ≡ b
second_one bytes a b x y = faults.fault_one blif_format (drop y.place bytes) a b
    (subst (λ (p : ℕ). HasNetFault blif_format (drop p bytes) a)
    (place_one (split_of bytes) x.place y.place x.parted y.parted) x.fault) y.fault

first_second : (bytes : List ℕ) (a b : NetError) → HasFirstFault bytes a → HasSecondFault bytes b → ⊥
first_second bytes a b x y = never (take y.place bytes) a y.first (subst (λ (p : ℕ). HasNetFault blif_format (take p bytes) a) (place_one (split_of bytes) x.place y.place x.parted y.parted) x.fault)

pub fault_one : (bytes : List ℕ) (a b : CompareError) → HasPairFault bytes a → HasPairFault bytes b → a ≡ b
fault_one bytes NoSecond NoSecond x y = refl
fault_one bytes NoSecond (First b) x y = absurd (place_none (split_of bytes) y.place x y.parted)
fault_one bytes NoSecond (Second b) x y = absurd (place_none (split_of bytes) y.place x y.parted)
fault_one bytes NoSecond DifferentInterface x y = absurd (place_none (split_of bytes) y.two.place x y.two.parted)
fault_one bytes (First a) NoSecond x y = absurd (place_none (split_of bytes) x.place y x.parted)
fault_one bytes (First a) (First b) x y = ap First (first_one bytes a b x y)
fault_one bytes (First a) (Second b) x y = absurd (first_second bytes a b x y)
fault_one bytes (First a) DifferentInterface x y = absurd (two_never_first bytes y.first y.second a y.two x)
fault_one bytes (Second a) NoSecond x y = absurd (place_none (split_of bytes) x.place y x.parted)
fault_one bytes (Second a) (First b) x y = absurd (first_second bytes b a y x)
fault_one bytes (Second a) (Second b) x y = ap Second (second_one bytes a b x y)
fault_one bytes (Second a) DifferentInterface x y = absurd (two_never_second bytes y.first y.second a y.two x)
fault_one bytes DifferentInterface NoSecond x y = absurd (place_none (split_of bytes) x.two.place y x.two.parted)
fault_one bytes DifferentInterface (First b) x y = absurd (two_never_first bytes x.first x.second b x.two y)
fault_one bytes DifferentInterface (Second b) x y = absurd (two_never_second bytes x.first x.second b x.two y)
fault_one bytes DifferentInterface DifferentInterface x y = refl
fault_one bytes Memory b x y = absurd x
fault_one bytes a Memory x y = absurd y

-- a refusal other than out of memory is a fault
pub refused_fault : (bytes : List ℕ) (e : CompareError) → IsRefusedPair bytes e → (e ≡ Memory → ⊥) → HasPairFault bytes e
refused_fault bytes NoSecond is other = is
refused_fault bytes (First e) is other = is
refused_fault bytes (Second e) is other = is
refused_fault bytes DifferentInterface is other = is
refused_fault bytes Memory is other = absurd (other refl)
