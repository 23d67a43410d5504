use Rattle.std.proofs.Common.{◌+◌, ℕ, List, length, map, take, drop, ap, ◌∙◌}
use Rattle.net_theory.specs.declared.data.Sig.{Sig}
use Rattle.net_theory.specs.Circuit.{Circuit}
use Rattle.aiger_core.specs.Written.{sig_literal, even_from, mapped, latches_from}
use Rattle.aiger_write.proofs.Files.{file_is}
use Rattle.aiger_write.proofs.writing.aiger_file.Goals as goal

pub returns : goal.returns
returns c =
    let k = c.args.circuit.now in
    let gates = c.gates.inside.gates.items in
    let literals = c.gates.inside.literals.items in
    let sinks = c.in_ok-sinks.sinks.items in
    file_is k gates literals sinks _ _ _ _ _
    (c.gates.view_is ∙ c.in_ok-gates.ensures.mapped ∙ ap (λ (x : Circuit). mapped x.net) c.circuit.view_is)
    (c.in_ok-sinks.ensures ∙ ap (λ (ls : List ℕ). map (sig_literal ls) c.sinks.result.now) c.deref.ensures.value
    ∙ ap (λ (ss : List Sig). map (sig_literal literals) ss) c.sinks.ensures.sinks
    ∙ ap (λ (x : Circuit). map (sig_literal literals) x.net.sinks) c.circuit.view_is)
    (ap (λ (n : ℕ). n + c.len-3.result) c.sources.ensures.sources
    ∙ ap (λ (n : ℕ). c.circuit.inside.net.sources + n) (c.len-3.ensures ∙ c.gates.inside.gates.ok.0)
    ∙ ap (λ (x : Circuit). x.net.sources + length gates) c.circuit.view_is)
    (c.in_ok-inputs.ensures ∙ ap (even_from 1) (c.len.ensures ∙ c.circuit.inside.inputs.ok.0)
    ∙ ap (λ (x : Circuit). even_from 1 (length x.inputs)) c.circuit.view_is)
    (c.in_ok-latches.ensures ∙ ap (λ (ls : List ℕ). latches_from (1 + length k.inputs) k.latches (drop (length k.outputs) ls)) c.deref-2.ensures.value)
    (c.in_ok-outputs.ensures.items ∙ ap (take c.len-2.result) c.deref-3.ensures.value
    ∙ ap (λ (n : ℕ). take n sinks) (c.len-2.ensures ∙ c.circuit.inside.outputs.ok.0)
    ∙ ap (λ (x : Circuit). take (length x.outputs) sinks) c.circuit.view_is)
    c.in_ok-symbols.ensures
