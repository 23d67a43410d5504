-- The first difference of two circuits under the bits of an answer is the one that the answer tells.
use Rattle.std.specs.Prelude.{◌≡◌, ◌≢◌, ℕ, ◌+◌, ◌-◌, ◌≤◌, ◌<◌, ◌⊎◌, Bool, false, List, length, map, slice_index_or, Some, None}
use Rattle.std.proofs.Common.{arith, ap, sym, ◌∙◌, subst, refl, ⊎_elim, length-append}
use Rattle.std.proofs.lemmas.Bool.{cases_lt}
use Rattle.std.proofs.lemmas.List.{length-map}
use Rattle.std.proofs.lemmas.Grind.{common_steps}
use Rattle.net_theory.specs.Document.{latch_output}
use Rattle.net_theory.specs.Net.{bit_of, sig_value, value, sink_values}
use Rattle.net_theory.specs.Circuit.{Circuit, IsProper, sources_of}
use Rattle.equiv_theory.specs.Counterexample.{sink_bit, HaveSameInterface, IsCounterexample}
use Rattle.equiv_theory.specs.CircuitLaws.{comparable}
use Rattle.equiv_run.specs.declared.answer.EquivOutcome.{EquivOutcome}
use Rattle.equiv_run.specs.declared.answer.EquivOutcome.TheVariants.{Equal, Differ, Undecided}
use Rattle.equiv_run.specs.CircuitAnswers.{AreDifferent, IsCircuitAnswer}
use Rattle.equiv_values.specs.Spelled.{spelled_bits}
use Rattle.equiv_values.specs.SpelledLaws.{spelled_back, differ_long}
use Rattle.equiv_values.specs.Named.{named_text, AreNamedDifferent, IsNamedCircuitAnswer}

-- ---- the bits of the answer

-- some sink is the first that differs under the bits
pub record DifferUnder (c k : Circuit) (bits : List Bool) : Type 0 where
  pub sink : ℕ
  pub differ : IsCounterexample c.net k.net sink bits

-- the lines are those of the sink that differs first under the bits
abbrev pub TellsUnder : Circuit → Circuit → List Bool → List ℕ → Type 0
TellsUnder c k bits told = (sink : ℕ) → IsCounterexample c.net k.net sink bits →
    told ≡ named_text (sources_of c) c.outputs c.latches sink bits
    (sink_bit c.net (bit_of bits) (sink - 1)) (sink_bit k.net (bit_of bits) (sink - 1))

-- the bits at the end of the answer are those of the counterexample
bits_are : (c k : Circuit) (text : List ℕ) (bits : List Bool) → (is : AreDifferent c k text) →
    bits ≡ spelled_bits text c.net.sources → bits ≡ is.bits
bits_are c k text bits is found =
    found
    ∙ ap (λ (xs : List ℕ). spelled_bits xs c.net.sources) is.text_is
    ∙ spelled_back c.outputs c.latches is.sink is.bits c.net.sources is.differ.each_source

pub room : (c k : Circuit) (text : List ℕ) (count : ℕ) → AreDifferent c k text → count ≡ c.net.sources →
    count + 1 ≤ length text
room c k text count is counted =
    omega (arith, ap length is.text_is, differ_long c.outputs c.latches is.sink is.bits, is.differ.each_source, counted)

pub differ_under : (c k : Circuit) (text : List ℕ) (bits slice : List Bool) (count : ℕ) → AreDifferent c k text →
    count ≡ c.net.sources → bits ≡ spelled_bits text count → slice ≡ bits → DifferUnder c k slice
differ_under c k text bits slice count is counted found same =
    let e : slice ≡ is.bits = same ∙ bits_are c k text bits is (found ∙ ap (spelled_bits text) counted) in
    record { sink = is.sink; differ = subst (λ (bs : List Bool). IsCounterexample c.net k.net is.sink bs) (sym e) is.differ }

pub named : (c k : Circuit) (text told : List ℕ) (bits slice : List Bool) (count : ℕ) → AreDifferent c k text →
    count ≡ c.net.sources → bits ≡ spelled_bits text count → slice ≡ bits → TellsUnder c k slice told →
    AreNamedDifferent c k text (Some told)
named c k text told bits slice count is counted found same tells =
    let e : slice ≡ is.bits = same ∙ bits_are c k text bits is (found ∙ ap (spelled_bits text) counted) in
    record {
      interface = is.interface;
      sink = is.sink;
      bits = is.bits;
      differ = is.differ;
      text_is = is.text_is;
      told_is = ap Some (subst (λ (bs : List Bool). TellsUnder c k bs told) e tells is.sink is.differ);
    }

-- ---- the sinks

pub first_long : (c k : Circuit) (bits : List Bool) → DifferUnder c k bits → length bits ≡ c.net.sources
first_long c k bits is = is.differ.each_source

pub second_long : (c k : Circuit) (bits : List Bool) → IsProper c → IsProper k → HaveSameInterface c k →
    DifferUnder c k bits → length bits ≡ k.net.sources
second_long c k bits of_c of_k same is = is.differ.each_source ∙ (comparable c k of_c of_k same).sources

pub sinks_long : (c k : Circuit) (bits ones others first second : List Bool) → IsProper c → IsProper k → HaveSameInterface c k →
    ones ≡ sink_values c.net (bit_of bits) → others ≡ sink_values k.net (bit_of bits) → first ≡ ones → second ≡ others →
    length first ≡ length second
sinks_long c k bits ones others first second of_c of_k same one other x y =
    ap length x ∙ ap length one ∙ length-map c.net.sinks (sig_value (value c.net (bit_of bits)))
    ∙ (comparable c k of_c of_k same).sinks
    ∙ sym (length-map k.net.sinks (sig_value (value k.net (bit_of bits)))) ∙ sym (ap length other) ∙ sym (ap length y)

pub sinks_within : (c : Circuit) (bits ones first : List Bool) → IsProper c → ones ≡ sink_values c.net (bit_of bits) →
    first ≡ ones → length first ≡ length c.outputs + length c.latches
sinks_within c bits ones first of one x =
    ap length x ∙ ap length one ∙ length-map c.net.sinks (sig_value (value c.net (bit_of bits))) ∙ of.sink_count

pub inputs_within : (c : Circuit) (bits : List Bool) → IsProper c → length bits ≡ c.net.sources →
    length c.inputs ≤ length bits
inputs_within c bits of long =
    let both : length (sources_of c) ≡ length c.inputs + length (map latch_output c.latches) =
    length-append c.inputs (map latch_output c.latches) in
    omega (arith, both, of.source_count, long)

-- the first place at which two lists differ
pub record IsFirstPlace (xs ys : List Bool) (i : ℕ) : Type 0 where
  pub differ : slice_index_or xs i false ≢ slice_index_or ys i false
  pub least : (m : ℕ) → m < i → slice_index_or xs m false ≡ slice_index_or ys m false

pub first_place : (xs ys : List Bool) (i : ℕ) → slice_index_or xs i false ≢ slice_index_or ys i false →
    ((m : ℕ) → m < i → slice_index_or xs m false ≡ slice_index_or ys m false) → IsFirstPlace xs ys i
first_place xs ys i differ least = record { differ = differ; least = least }

-- two such places are one
first_one : (xs ys : List Bool) (i j : ℕ) → IsFirstPlace xs ys i → IsFirstPlace xs ys j → i ≡ j
first_one xs ys i j x y =
    ⊎_elim (λ (low : i < j). absurd (x.differ (y.least i low)))
    (λ (high : j ≤ i). ⊎_elim (λ (below : j < i). absurd (y.differ (x.least j below)))
    (λ (over : i ≤ j). omega (arith, high, over)) (cases_lt j i))
    (cases_lt i j)

-- lists with the values of the sinks differ first at the sink of a counterexample
counter_place : (c k : Circuit) (bits xs ys : List Bool) (sink : ℕ) → xs ≡ sink_values c.net (bit_of bits) →
    ys ≡ sink_values k.net (bit_of bits) → IsCounterexample c.net k.net sink bits → IsFirstPlace xs ys (sink - 1)
counter_place c k bits xs ys sink one other is = record {
  differ = λ same. is.first_sink.here.differ
      (ap (λ (zs : List Bool). slice_index_or zs (sink - 1) false) (sym one) ∙ same
      ∙ ap (λ (zs : List Bool). slice_index_or zs (sink - 1) false) other);
  least = λ m low.
      ap (λ (zs : List Bool). slice_index_or zs m false) one ∙ is.first_sink.least m low
      ∙ ap (λ (zs : List Bool). slice_index_or zs m false) (sym other);
}

-- so there is a difference
pub never_same : (c k : Circuit) (bits ones others first second : List Bool) → DifferUnder c k bits →
    ones ≡ sink_values c.net (bit_of bits) → others ≡ sink_values k.net (bit_of bits) → first ≡ ones → second ≡ others →
    ((j : ℕ) → j < length first → slice_index_or first j false ≡ slice_index_or second j false) → ⊥
never_same c k bits ones others first second is one other x y same =
    let place = counter_place c k bits first second is.sink (x ∙ one) (y ∙ other) is.differ in
    let long : length first ≡ length c.net.sinks =
    ap length x ∙ ap length one ∙ length-map c.net.sinks (sig_value (value c.net (bit_of bits))) in
    place.differ (same (is.sink - 1) (omega (arith, long, is.differ.first_sink.here.below)))

-- the lines of the first place are those of the counterexample
pub record TellsPlace (c : Circuit) (bits ones others : List Bool) (told : List ℕ) : Type 0 where
  pub place : ℕ
  pub first : IsFirstPlace ones others place
  pub told_is : told ≡ named_text (sources_of c) c.outputs c.latches (place + 1) bits (slice_index_or ones place false)
      (slice_index_or others place false)

pub tells_place : (c : Circuit) (bits ones others : List Bool) (told : List ℕ) (i : ℕ) (one other : Bool) →
    IsFirstPlace ones others i → one ≡ slice_index_or ones i false → other ≡ slice_index_or others i false →
    told ≡ named_text (sources_of c) c.outputs c.latches (i + 1) bits one other → TellsPlace c bits ones others told
tells_place c bits ones others told i one other first x y is = record {
  place = i;
  first = first;
  told_is = is
      ∙ ap (λ (b : Bool). named_text (sources_of c) c.outputs c.latches (i + 1) bits b other) x
      ∙ ap (λ (b : Bool). named_text (sources_of c) c.outputs c.latches (i + 1) bits (slice_index_or ones i false) b) y;
}

pub tells_under : (c k : Circuit) (bits ones others first second : List Bool) (told : List ℕ) →
    ones ≡ sink_values c.net (bit_of bits) → others ≡ sink_values k.net (bit_of bits) → first ≡ ones → second ≡ others →
    TellsPlace c bits first second told → TellsUnder c k bits told
tells_under c k bits ones others first second told one other x y is sink counter =
    let place : is.place ≡ sink - 1 = first_one first second is.place (sink - 1) is.first
    (counter_place c k bits first second sink (x ∙ one) (y ∙ other) counter) in
    let number : is.place + 1 ≡ sink = omega (arith, place, counter.counted) in
    is.told_is
    ∙ ap (λ (n : ℕ). named_text (sources_of c) c.outputs c.latches n bits (slice_index_or first is.place false)
    (slice_index_or second is.place false)) number
    ∙ ap (λ (n : ℕ). named_text (sources_of c) c.outputs c.latches sink bits (slice_index_or first n false)
    (slice_index_or second n false)) place
    ∙ ap (λ (zs : List Bool). named_text (sources_of c) c.outputs c.latches sink bits (slice_index_or zs (sink - 1) false)
    (slice_index_or second (sink - 1) false)) (x ∙ one)
    ∙ ap (λ (zs : List Bool). named_text (sources_of c) c.outputs c.latches sink bits
    (sink_bit c.net (bit_of bits) (sink - 1)) (slice_index_or zs (sink - 1) false)) (y ∙ other)

pub ruleset placing = (common_steps, first_place, tells_place)

pub ruleset simulating = (common_steps, first_long, second_long, sinks_long, sinks_within, inputs_within, never_same, tells_under)

-- ---- by the outcome

pub told_equal : (budget : ℕ) (c k : Circuit) (text : List ℕ) (outcome : EquivOutcome) → outcome ≡ Equal →
    IsCircuitAnswer budget c k text outcome → IsNamedCircuitAnswer budget c k text None outcome
told_equal budget c k text outcome is answer =
    subst (λ (o : EquivOutcome). IsNamedCircuitAnswer budget c k text None o) (sym is)
    (subst (IsCircuitAnswer budget c k text) is answer, refl)

pub told_undecided : (budget : ℕ) (c k : Circuit) (text : List ℕ) (outcome : EquivOutcome) → outcome ≡ Undecided →
    IsCircuitAnswer budget c k text outcome → IsNamedCircuitAnswer budget c k text None outcome
told_undecided budget c k text outcome is answer =
    subst (λ (o : EquivOutcome). IsNamedCircuitAnswer budget c k text None o) (sym is)
    (subst (IsCircuitAnswer budget c k text) is answer, refl)

pub differ_told : (budget : ℕ) (c k : Circuit) (text : List ℕ) (outcome : EquivOutcome) → outcome ≡ Differ →
    IsCircuitAnswer budget c k text outcome → AreDifferent c k text
differ_told budget c k text outcome is answer = subst (IsCircuitAnswer budget c k text) is answer

pub told_differ : (budget : ℕ) (c k : Circuit) (text told : List ℕ) (outcome : EquivOutcome) → outcome ≡ Differ →
    AreNamedDifferent c k text (Some told) → IsNamedCircuitAnswer budget c k text (Some told) outcome
told_differ budget c k text told outcome is named =
    subst (λ (o : EquivOutcome). IsNamedCircuitAnswer budget c k text (Some told) o) (sym is) named

pub ruleset telling = (common_steps, told_equal, told_undecided, differ_told, told_differ)
