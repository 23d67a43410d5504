-- Circuits that are read from texts have few sources and sinks.
use Rattle.std.specs.Prelude.{◌≡◌, ℕ, ◌+◌, ◌*◌, ◌≤◌, List, length, map, Option, Some, None, Result, Ok, Err}
use Rattle.std.proofs.Common.{arith, ap, sym, ◌∙◌, refl, length-append}
use Rattle.std.proofs.lemmas.List.{length-map}
use Rattle.net_theory.specs.Document.{Document, latch_output, latches_of, table_output}
use Rattle.net_theory.specs.NetOf.{source_count}
use Rattle.net_theory.specs.Cost.{cost}
use Rattle.net_theory.specs.Circuit.{Circuit, sources_of}
use Rattle.net_core.specs.declared.error.NetError.{NetError}
use Rattle.net_document.specs.Listed.{Listed}
use Rattle.net_document.specs.Format.{IsCircuitOfText}
use Rattle.blif_text.specs.Reading.{◌>>=◌}
use Rattle.blif_text.specs.Statements.{Said, said_of, control_fault, unless, listed_by, listed_of}
use Rattle.blif_text.specs.ListingLaws.{IsSaidBy, text_small, text_named}
use Rattle.blif_core.specs.Blif.{blif_format}
use Rattle.equiv_core.specs.Limits.{IsSmall}
use Rattle.net_theory.specs.Limits.{most_of_two}

unless_ok : (f : Option NetError) (k l : Listed) → unless f k ≡ Ok l → k ≡ l
unless_ok None k l e = cc
unless_ok (Some f) k l e = absurd cc

content_parts : (bytes : List ℕ) (l : Listed) (r : Result Said NetError) → said_of bytes ≡ r →
    (r >>= λ s. unless (control_fault (map table_output s.tables) s.controls) (listed_by s)) ≡ Ok l → IsSaidBy bytes l
content_parts bytes l (Ok s) e f = record { state = s; said = e; same = unless_ok (control_fault (map table_output s.tables) s.controls) (listed_by s) l f }
content_parts bytes l (Err x) e f = absurd cc

content_by : (bytes : List ℕ) (l : Listed) → listed_of bytes ≡ Ok l → IsSaidBy bytes l
unfolding listed_of
content_by bytes l e = content_parts bytes l (said_of bytes) refl e

-- a document has at most as many names as its text has bytes
record IsFew (bytes : List ℕ) (d : Document) : Type 0 where
  sources : 2 * source_count d + cost d ≤ length bytes
  outputs : length d.outputs ≤ length bytes

few : (bytes : List ℕ) (l : Listed) → listed_of bytes ≡ Ok l → IsFew bytes l.document
few bytes l e =
    let s = content_by bytes l e in
    record {
      sources = rw (← s.same) (text_small bytes s.state s.said);
      outputs = rw (← s.same) (let h = text_named bytes s.state s.said in omega (arith, h));
    }

pub small_circuit : (bytes : List ℕ) (c : Circuit) → length bytes ≤ most_of_two → IsCircuitOfText blif_format bytes c → IsSmall c.net
small_circuit bytes c short of =
    let f = few bytes of.listed of.said in
    let d = of.listed.document in
    let latches : length c.latches ≡ length (latches_of d) = ap length (sym of.circuit.describes.latches) in
    let inputs : length c.inputs ≡ length d.inputs = ap length (sym of.circuit.describes.inputs) in
    let outputs : length c.outputs ≡ length d.outputs = ap length (sym of.circuit.describes.outputs) in
    let names : source_count d ≡ length d.inputs + length (latches_of d) =
    length-append d.inputs (map latch_output (latches_of d))
    ∙ ap (λ (n : ℕ). length d.inputs + n) (length-map (latches_of d) latch_output) in
    let own : length (sources_of c) ≡ length c.inputs + length c.latches =
    length-append c.inputs (map latch_output c.latches)
    ∙ ap (λ (n : ℕ). length c.inputs + n) (length-map c.latches latch_output) in
    record {
      sources = omega (arith, f.sources, names, own, inputs, latches, of.circuit.proper.source_count, short);
      sinks = omega (arith, f.sources, f.outputs, names, latches, outputs, of.circuit.proper.sink_count, short);
    }
