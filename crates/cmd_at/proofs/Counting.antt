-- Sources and sinks of circuits of one interface.
use Rattle.std.specs.Prelude.{◌≡◌, ◌↔◌, ℕ, ◌+◌, ◌≤◌, Bool, List, length, map, IsTrue}
use Rattle.std.proofs.Common.{sym, ap, subst, ◌∙◌, arith, length-append}
use Rattle.std.proofs.lemmas.List.{length-map}
use Rattle.std.proofs.lemmas.Grind.{common_steps}
use Rattle.net_theory.specs.Document.{latch_output}
use Rattle.net_theory.specs.Net.{bit_of, sig_value, value, sink_values}
use Rattle.net_theory.specs.Circuit.{Circuit, IsProper, sources_of}
use Rattle.equiv_theory.specs.Counterexample.{HaveSameInterface}
use Rattle.equiv_theory.specs.CircuitLaws.{comparable}
use Rattle.cmd_at.specs.AtText.{values_text}
use Rattle.cmd_at.specs.declared.circuits.Valued.TheVariants.{Miscounted}
use Rattle.cmd_at.specs.AtReport.{IsCircuitText, IsCircuitValued}

-- the bits of the second circuit's sources are as many
pub second_long : (c k : Circuit) (bits : List Bool) → IsProper c → IsProper k → HaveSameInterface c k →
    length bits ≡ c.net.sources → length bits ≡ k.net.sources
second_long c k bits of_c of_k same long = long ∙ (comparable c k of_c of_k same).sources

pub inputs_within : (c : Circuit) (bits : List Bool) → IsProper c → length bits ≡ c.net.sources →
    length c.inputs ≤ length bits
inputs_within c bits of long =
    let both : length (sources_of c) ≡ length c.inputs + length (map latch_output c.latches) =
    length-append c.inputs (map latch_output c.latches) in
    omega (arith, both, of.source_count, long)

pub sinks_within : (c : Circuit) (given : ℕ → Bool) (ones : List Bool) → IsProper c → ones ≡ sink_values c.net given →
    length ones ≤ length c.outputs + length c.latches
sinks_within c given ones of is =
    let long : length ones ≡ length c.net.sinks = ap length is ∙ length-map c.net.sinks (sig_value (value c.net given)) in
    omega (arith, long, of.sink_count)

pub circuit_text : (c k : Circuit) (bits ones others : List Bool) (same : Bool) (text : List ℕ) → HaveSameInterface c k →
    length bits ≡ c.net.sources → ones ≡ sink_values c.net (bit_of bits) → others ≡ sink_values k.net (bit_of bits) →
    (IsTrue same ↔ (ones ≡ others)) →
    text ≡ values_text (sources_of c) c.outputs c.latches same bits ones others → IsCircuitText c k bits text
circuit_text c k bits ones others same text interface long first second same_is is = record {
  interface = interface;
  each_source = long;
  same = same;
  same_is = subst (λ (xs : List Bool). IsTrue same ↔ (xs ≡ sink_values k.net (bit_of bits))) first
      (subst (λ (ys : List Bool). IsTrue same ↔ (ones ≡ ys)) second same_is);
  is = is
      ∙ ap (λ (xs : List Bool). values_text (sources_of c) c.outputs c.latches same bits xs others) first
      ∙ ap (λ (ys : List Bool). values_text (sources_of c) c.outputs c.latches same bits (sink_values c.net (bit_of bits)) ys) second;
}

pub few_or_many : (c k : Circuit) (bits : List Bool) (count : ℕ) → HaveSameInterface c k → count ≡ c.net.sources →
    (length bits ≡ count → ⊥) → IsCircuitValued c k bits (Miscounted count)
few_or_many c k bits count interface counted other =
    record { interface = interface; counted = sym counted; other = λ same. other same }

pub ruleset counting = (common_steps, second_long, inputs_within, sinks_within, circuit_text, few_or_many)
