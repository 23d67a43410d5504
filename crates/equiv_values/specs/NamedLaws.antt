-- An answer for two circuits is one for the documents that they were read from.
use Rattle.std.specs.Prelude.{◌≡◌, ℕ, ◌-◌, Bool, false, List, ◌++◌, length, map, slice_index_or, Option, Some}
use Rattle.std.proofs.Common.{arith, ap, sym, ◌∙◌, subst, length-append}
use Rattle.std.proofs.lemmas.List.{length-map}
use Rattle.net_theory.specs.Document.{Name, Latch, Document, latches_of, latch_of, latch_output, latch_input, source_names, sink_names}
use Rattle.net_theory.specs.Behaviour.{IsValuationOf}
use Rattle.net_theory.specs.Net.{bit_of}
use Rattle.net_theory.specs.Circuit.{Circuit, IsProper, Describes, IsCircuitOf, sources_of}
use Rattle.equiv_theory.specs.Counterexample.{HaveSameInterface, sink_bit}
use Rattle.equiv_run.specs.declared.answer.EquivOutcome.{EquivOutcome}
use Rattle.equiv_run.specs.declared.answer.EquivOutcome.TheVariants.{Equal, Differ, Undecided}
use Rattle.equiv_run.specs.Texts.{differ_text}
use Rattle.equiv_run.specs.Pairs.{sink_in}
use Rattle.equiv_run.specs.PairLaws.{answered_of}
use Rattle.equiv_run.specs.NameBits.{has_assignment, values_are}
use Rattle.equiv_values.specs.Named.{named_text, AreNamedDifferent, IsNamedCircuitAnswer, IsNamedDifference, IsNamedAnswer}

-- ---- interfaces

names_same : (d : Document) (c : Circuit) → Describes d c → source_names d ≡ sources_of c
names_same d c of =
    ap (λ (ns : List Name). ns ++ map latch_output (latches_of d)) of.inputs
    ∙ ap (λ (ls : List Latch). c.inputs ++ map latch_output ls) of.latches

sources_same : (c k : Circuit) → HaveSameInterface c k → sources_of c ≡ sources_of k
sources_same c k same =
    ap (λ (ns : List Name). ns ++ map latch_output c.latches) same.inputs
    ∙ ap (λ (ls : List Latch). k.inputs ++ map latch_output ls) same.latches

-- ---- values

-- the value of a sink in a document is that in its circuit
sink_is : (d : Document) (c : Circuit) (bits : List Bool) (i : ℕ) (given v : Name → Bool) → IsProper c → Describes d c →
    map given (sources_of c) ≡ bits → IsValuationOf d given v → sink_in d v i ≡ sink_bit c.net (bit_of bits) i
sink_is d c bits i given v of describes is maps =
    ap (λ (bs : List Bool). slice_index_or bs i false) (describes.sinks given v maps ∙ values_are c given bits of is)

-- ---- the difference

sinks_counted : (d : Document) (c : Circuit) → IsProper c → Describes d c → length (sink_names d) ≡ length c.net.sinks
sinks_counted d c of is =
    let outputs : length d.outputs ≡ length c.outputs = ap length is.outputs in
    let latches : length (latches_of d) ≡ length c.latches = ap length is.latches in
    let one : length (latches_of d) ≡ length d.latches = length-map d.latches latch_of in
    let two : length (map latch_input d.latches) ≡ length d.latches = length-map d.latches latch_input in
    omega (arith, outputs, latches, one, two, length-append d.outputs (map latch_input d.latches), of.sink_count)

named_difference : (d e : Document) (c k : Circuit) (text : List ℕ) (told : Option (List ℕ)) → IsCircuitOf d c →
    IsCircuitOf e k → AreNamedDifferent c k text told → IsNamedDifference d e text told
named_difference d e c k text told of_d of_e is =
    let place : ℕ = is.sink - 1 in
    let one : Bool = sink_bit c.net (bit_of is.bits) place in
    let other : Bool = sink_bit k.net (bit_of is.bits) place in
    let names : source_names d ≡ sources_of c = names_same d c of_d.describes in
    let long : length is.bits ≡ length (sources_of c) = is.differ.each_source ∙ of_d.proper.source_count in
    record {
      sink = is.sink;
      bits = is.bits;
      differ = record {
        first_has_one = of_d.describes.one;
        second_has_one = of_e.describes.one;
        each_source = long ∙ ap length (sym names);
        counted = is.differ.counted;
        below = omega (arith, is.differ.first_sink.here.below, is.differ.counted, sinks_counted d c of_d.proper of_d.describes);
        some = subst (λ (ns : List Name). (given : Name → Bool) × (map given ns ≡ is.bits)) (sym names)
            (has_assignment (sources_of c) is.bits of_d.proper.distinct long);
        differ = λ given v w gives maps_v maps_w equal. is.differ.first_sink.here.differ
            (sym (at given v gives maps_v place) ∙ equal ∙ at' given w gives maps_w place);
        least = λ given v w gives maps_v maps_w j before.
            at given v gives maps_v j ∙ is.differ.first_sink.least j before ∙ sym (at' given w gives maps_w j);
      };
      one = one;
      other = other;
      first_value = λ given v gives maps. at given v gives maps place;
      second_value = λ given w gives maps. at' given w gives maps place;
      text_is = is.text_is
          ∙ ap (λ (ns : List Name). differ_text ns c.latches is.sink is.bits) (sym of_d.describes.outputs)
          ∙ ap (λ (ls : List Latch). differ_text d.outputs ls is.sink is.bits) (sym of_d.describes.latches);
      told_is = is.told_is
          ∙ ap (λ (ns : List Name). Some (named_text ns c.outputs c.latches is.sink is.bits one other)) (sym names)
          ∙ ap (λ (ns : List Name). Some (named_text (source_names d) ns c.latches is.sink is.bits one other))
          (sym of_d.describes.outputs)
          ∙ ap (λ (ls : List Latch). Some (named_text (source_names d) d.outputs ls is.sink is.bits one other))
          (sym of_d.describes.latches);
    } where
      at : (given v : Name → Bool) → map given (source_names d) ≡ is.bits → IsValuationOf d given v → (i : ℕ) →
          sink_in d v i ≡ sink_bit c.net (bit_of is.bits) i
      at given v gives maps i = sink_is d c is.bits i given v of_d.proper of_d.describes
          (ap (map given) (sym (names_same d c of_d.describes)) ∙ gives) maps

      at' : (given w : Name → Bool) → map given (source_names d) ≡ is.bits → IsValuationOf e given w → (i : ℕ) →
          sink_in e w i ≡ sink_bit k.net (bit_of is.bits) i
      at' given w gives maps i = sink_is e k is.bits i given w of_e.proper of_e.describes
          (ap (map given) (sym (sources_same c k is.interface)) ∙ ap (map given) (sym (names_same d c of_d.describes)) ∙ gives) maps

-- ---- the answers

pub named_of : (budget : ℕ) (d e : Document) (c k : Circuit) (text : List ℕ) (told : Option (List ℕ)) (outcome : EquivOutcome) →
    IsCircuitOf d c → IsCircuitOf e k → IsNamedCircuitAnswer budget c k text told outcome →
    IsNamedAnswer budget d e text told outcome
named_of budget d e c k text told Equal of_d of_e is = (answered_of budget d e c k text Equal of_d of_e is.0, is.1)
named_of budget d e c k text told Differ of_d of_e is = named_difference d e c k text told of_d of_e is
named_of budget d e c k text told Undecided of_d of_e is = (answered_of budget d e c k text Undecided of_d of_e is.0, is.1)

pub named_interface : (budget : ℕ) (c k : Circuit) (text : List ℕ) (told : Option (List ℕ)) (outcome : EquivOutcome) →
    IsNamedCircuitAnswer budget c k text told outcome → HaveSameInterface c k
named_interface budget c k text told Equal is = is.0.interface
named_interface budget c k text told Differ is = is.interface
named_interface budget c k text told Undecided is = is.0.interface
