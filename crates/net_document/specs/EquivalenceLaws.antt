-- Documents of equivalent circuits are equivalent.
use Rattle.std.specs.Prelude.{refl}
use Rattle.std.proofs.Common.{sym, ◌∙◌}
use Rattle.net_theory.specs.Document.{Document}
use Rattle.net_theory.specs.Behaviour.{IsEquivalent}
use Rattle.net_theory.specs.Net.{Net}
use Rattle.net_theory.specs.Circuit.{Circuit, Describes, sources_of, by_node}
use Rattle.net_theory.specs.Implements.{Implements}
use Rattle.net_theory.specs.ExchangeLaws.{with_net}
use Rattle.net_document.specs.Equivalence.{AreEquivalentCircuits}

pub equivalent_same : (d e : Document) (c k : Circuit) → Describes d c → Describes e k → AreEquivalentCircuits c k → IsEquivalent d e
equivalent_same d e c k of_d of_e equivalent = record {
  inputs = of_d.inputs ∙ equivalent.inputs ∙ sym of_e.inputs;
  outputs = of_d.outputs ∙ equivalent.outputs ∙ sym of_e.outputs;
  clocks = of_d.clocks ∙ equivalent.clocks ∙ sym of_e.clocks;
  latches = of_d.latches ∙ equivalent.latches ∙ sym of_e.latches;
  first_has_one = of_d.one;
  second_has_one = of_e.one;
  sinks = λ given v w maps_v maps_w. of_d.sinks given v maps_v ∙ equivalent.values given ∙ sym (of_e.sinks given w maps_w);
}

-- a document that describes a circuit describes each equivalent circuit
pub describes_equivalent : (d : Document) (c k : Circuit) → Describes d c → AreEquivalentCircuits c k → Describes d k
describes_equivalent d c k of equivalent = record {
  inputs = of.inputs ∙ equivalent.inputs;
  outputs = of.outputs ∙ equivalent.outputs;
  clocks = of.clocks ∙ equivalent.clocks;
  latches = of.latches ∙ equivalent.latches;
  one = of.one;
  sinks = λ given v maps. of.sinks given v maps ∙ equivalent.values given;
}

-- a circuit is equivalent to itself with a net that implements its net
pub equivalent_exchanged : (c : Circuit) (m : Net) → Implements c.net m → AreEquivalentCircuits c (with_net c m)
equivalent_exchanged c m implements = record { inputs = refl; outputs = refl; clocks = refl; latches = refl; values = λ given. sym (implements.values (by_node (sources_of c) given)) }
