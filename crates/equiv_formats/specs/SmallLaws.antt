-- Circuits that are read from texts have few sources and sinks, in each format.
use Rattle.std.specs.Prelude.{◌≡◌, ℕ, ◌+◌, ◌≤◌, List, length, map}
use Rattle.std.proofs.Common.{arith, ap, sym, ◌∙◌, length-append}
use Rattle.std.proofs.lemmas.List.{length-map}
use Rattle.net_theory.specs.Limits.{most_of_two}
use Rattle.net_theory.specs.Document.{latch_output, latches_of}
use Rattle.net_theory.specs.NetOf.{source_count}
use Rattle.net_theory.specs.Circuit.{Circuit, sources_of}
use Rattle.net_document.specs.Format.{IsCircuitOfText}
use Rattle.equiv_core.specs.Limits.{IsSmall}
use Rattle.format_names.specs.declared.formats.NetFormat.{NetFormat}
use Rattle.net_formats.specs.Formats.{format_of}
use Rattle.net_formats.specs.FormatLaws.{texts_few}

pub small_circuit : (format : NetFormat) (bytes : List ℕ) (c : Circuit) → length bytes ≤ most_of_two →
    IsCircuitOfText (format_of format) bytes c → IsSmall c.net
small_circuit format bytes c short of =
    let f = texts_few format bytes of.listed of.said short in
    let d = of.listed.document in
    let latches : length c.latches ≡ length (latches_of d) = ap length (sym of.circuit.describes.latches) in
    let inputs : length c.inputs ≡ length d.inputs = ap length (sym of.circuit.describes.inputs) in
    let outputs : length c.outputs ≡ length d.outputs = ap length (sym of.circuit.describes.outputs) in
    let names : source_count d ≡ length d.inputs + length (latches_of d) =
    length-append d.inputs (map latch_output (latches_of d))
    ∙ ap (λ (n : ℕ). length d.inputs + n) (length-map (latches_of d) latch_output) in
    let own : length (sources_of c) ≡ length c.inputs + length c.latches =
    length-append c.inputs (map latch_output c.latches)
    ∙ ap (λ (n : ℕ). length c.inputs + n) (length-map c.latches latch_output) in
    record {
      sources = omega (arith, f.sources, names, own, inputs, latches, of.circuit.proper.source_count);
      sinks = omega (arith, f.sources, f.outputs, names, latches, outputs, of.circuit.proper.sink_count);
    }
