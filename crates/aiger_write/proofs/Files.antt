-- The file of a circuit that can be written: its counts fit, and it is made of the parts that were made.
use Rattle.std.proofs.Common.{◌≡◌, ℕ, ◌+◌, ◌≤◌, ◌<◌, ◌^◌, List, length, length-append, map, take, drop, refl, ap, ◌∙◌, arith}
use Rattle.std.proofs.lemmas.List.{length-map}
use Rattle.std.proofs.lemmas.Grind.{common_steps}
use Rattle.net_theory.specs.Document.{latch_output}
use Rattle.net_theory.specs.Circuit.{Circuit, sources_of}
use Rattle.aiger_text.specs.declared.file.AigLatch.{AigLatch}
use Rattle.aiger_text.specs.declared.file.AigGate.{AigGate}
use Rattle.aiger_text.specs.declared.file.Symbol.{Symbol}
use Rattle.aiger_text.specs.File.{AigFile}
use Rattle.aiger_core.specs.Written.{sig_literal, Mapped, even_from, mapped, latches_from, file_of}
use Rattle.aiger_laws.specs.Writable.{CanWriteAiger}

-- ---- counts

sources_split : (c : Circuit) → length (sources_of c) ≡ length c.inputs + length c.latches
sources_split c = length-append c.inputs (map latch_output c.latches) ∙ ap (λ (n : ℕ). length c.inputs + n) (length-map c.latches latch_output)

pub inputs_low : (c : Circuit) → CanWriteAiger c → length c.inputs < 2 ^ 31
inputs_low c is = omega (arith, sources_split c, is.sources)

pub latches_low : (c : Circuit) → CanWriteAiger c → length c.latches < 2 ^ 31
latches_low c is = omega (arith, sources_split c, is.sources)

pub outputs_low : (c : Circuit) → CanWriteAiger c → length c.outputs < 2 ^ 31
outputs_low c is = omega (arith, is.outputs)

pub inputs_room : (c : Circuit) → CanWriteAiger c → 1 + length c.inputs < 2 ^ 31
inputs_room c is = omega (arith, sources_split c, is.sources)

pub latches_room : (c : Circuit) → CanWriteAiger c → 1 + length c.inputs + length c.latches < 2 ^ 31
latches_room c is = omega (arith, sources_split c, is.sources)

pub nodes_low : (c : Circuit) → CanWriteAiger c → c.net.sources + 1 + length c.net.gates < 2 ^ 31
nodes_low c is = omega (arith, is.proper.source_count, is.sources, is.proper.gates)

pub variables_low : (c : Circuit) (gates : List AigGate) → CanWriteAiger c → length gates ≤ length c.net.gates →
    c.net.sources + length gates < 2 ^ 31
variables_low c gates is few = omega (arith, nodes_low c is, few)

-- the outputs are among the sinks
pub outputs_within : (c : Circuit) (sinks : List ℕ) → CanWriteAiger c → length sinks ≡ length c.net.sinks → length c.outputs ≤ length sinks
outputs_within c sinks is size = omega (arith, size, is.proper.sink_count)

pub sinks_size : (c : Circuit) (literals sinks : List ℕ) → sinks ≡ map (sig_literal literals) c.net.sinks → length sinks ≡ length c.net.sinks
sinks_size c literals sinks is = ap length is ∙ length-map c.net.sinks (sig_literal literals)

pub outputs_of : (c : Circuit) (literals sinks : List ℕ) → CanWriteAiger c → sinks ≡ map (sig_literal literals) c.net.sinks → length c.outputs ≤ length sinks
outputs_of c literals sinks can is = outputs_within c sinks can (sinks_size c literals sinks is)

pub ruleset bounds = (common_steps, inputs_low, latches_low, outputs_low, inputs_room, latches_room, nodes_low, outputs_within)

-- ---- the file

abbrev pub mapped_as : List AigGate → List ℕ → Mapped
mapped_as gates literals = record { gates = gates; literals = literals }

abbrev pub file_as : ℕ → List ℕ → List AigLatch → List ℕ → List AigGate → List Symbol → AigFile
file_as variables inputs latches outputs gates symbols = record {
  variables = variables;
  inputs = inputs;
  latches = latches;
  outputs = outputs;
  gates = gates;
  symbols = symbols;
}

pub file_is : (c : Circuit) (gates : List AigGate) (literals sinks inputs outputs : List ℕ) (latches : List AigLatch)
    (symbols : List Symbol) (variables : ℕ) → mapped_as gates literals ≡ mapped c.net →
    sinks ≡ map (sig_literal literals) c.net.sinks → variables ≡ c.net.sources + length gates →
    inputs ≡ even_from 1 (length c.inputs) →
    latches ≡ latches_from (1 + length c.inputs) c.latches (drop (length c.outputs) sinks) →
    outputs ≡ take (length c.outputs) sinks → symbols ≡ (file_of c).symbols →
    file_as variables inputs latches outputs gates symbols ≡ file_of c
unfolding file_of
file_is c gates literals sinks inputs outputs latches symbols variables m s v i l o y =
    let gates_are : gates ≡ (mapped c.net).gates = ap (λ (x : Mapped). x.gates) m in
    let literals_are : literals ≡ (mapped c.net).literals = ap (λ (x : Mapped). x.literals) m in
    rw (v, i, l, o, y, s, gates_are, literals_are) refl

pub ruleset files = (common_steps, nodes_low, inputs_room, variables_low, sinks_size, outputs_of, file_is)
