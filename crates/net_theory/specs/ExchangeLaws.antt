-- A circuit's net can be replaced by one that implements it, repeatedly.
use Rattle.std.specs.Prelude.{◌≡◌, ℕ, ◌+◌, ◌<◌, length, slice_get, slice_index_or, Some, refl}
use Rattle.std.proofs.Common.{arith, sym, ◌∙◌, ap, subst}
use Rattle.std.proofs.lemmas.Option.{slice_get-get_or, get_or_from_slice_get}
use Rattle.net_theory.specs.declared.data.Sig.TheVariants.{Zero, Node}
use Rattle.net_theory.specs.Net.{Net, IsNet}
use Rattle.net_theory.specs.Document.{Document}
use Rattle.net_theory.specs.Circuit.{Circuit, sources_of, IsProper, by_node, Describes}
use Rattle.net_theory.specs.Implements.{IsTrivialSink, Implements}

-- the circuit with its net replaced
abbrev pub with_net : Circuit → Net → Circuit
with_net c m = record { model = c.model; inputs = c.inputs; outputs = c.outputs; clocks = c.clocks; latches = c.latches; net = m }

pub exchanged_proper : (c : Circuit) (m : Net) → IsProper c → Implements c.net m → IsProper (with_net c m)
exchanged_proper c m is implements =
    let within : (i : ℕ) → i < length c.outputs → i < length c.net.sinks = λ i low. omega (arith, is.sink_count) in
    record {
      net = implements.net;
      source_count = implements.sources ∙ is.source_count;
      sink_count = implements.sink_count ∙ is.sink_count;
      model = is.model;
      inputs = is.inputs;
      outputs = is.outputs;
      clocks = is.clocks;
      latches = is.latches;
      distinct = is.distinct;
      source_outputs = λ i j low_i low_j same.
          let old : slice_index_or c.net.sinks i Zero ≡ Node (j + 1) = is.source_outputs i j low_i low_j same in
          let at : slice_get c.net.sinks i ≡ Some (Node (j + 1)) = slice_get-get_or c.net.sinks i Zero (within i low_i) ∙ ap Some old in
          get_or_from_slice_get m.sinks i (Node (j + 1)) Zero (implements.still i (Node (j + 1)) at (omega (arith, is.source_count)));
      equal_outputs = λ i j low_i low_j same. implements.equal i j Zero (within i low_i) (within j low_j) (is.equal_outputs i j low_i low_j same);
      controls = is.controls;
      gates = omega (arith, is.gates, implements.fewer);
    }

pub exchanged_describes : (d : Document) (c : Circuit) (m : Net) → Implements c.net m → Describes d c → Describes d (with_net c m)
exchanged_describes d c m implements is =
    record {
      inputs = is.inputs;
      outputs = is.outputs;
      clocks = is.clocks;
      latches = is.latches;
      one = is.one;
      sinks = λ given v maps. is.sinks given v maps ∙ sym (implements.values (by_node (sources_of c) given));
    }

-- `Implements` is reflexive
pub implements_itself : (n : Net) → IsNet n → Implements n n
implements_itself n net =
    record {
      net = net;
      sources = refl;
      sink_count = refl;
      values = λ given. refl;
      fewer = omega arith;
      still = λ i s at still. at;
      equal = λ i j d low_i low_j same. same;
    }

-- and transitive
pub implements_on : (a b c : Net) → Implements a b → Implements b c → Implements a c
implements_on a b c ab bc =
    record {
      net = bc.net;
      sources = bc.sources ∙ ab.sources;
      sink_count = bc.sink_count ∙ ab.sink_count;
      values = λ given. bc.values given ∙ ab.values given;
      fewer = omega (arith, ab.fewer, bc.fewer);
      still = λ i s at still. bc.still i s (ab.still i s at still) (subst (λ (k : ℕ). IsTrivialSink k s) (sym ab.sources) still);
      equal = λ i j d low_i low_j same. bc.equal i j d (omega (arith, ab.sink_count)) (omega (arith, ab.sink_count)) (ab.equal i j d low_i low_j same);
    }
