-- The document of a circuit's file, with the circuit's names: its inputs, outputs and latches are the circuit's.
use Rattle.std.proofs.Common.{◌≡◌, ℕ, ◌+◌, ◌*◌, ◌≤◌, List, [], ◌∷◌, ◌++◌, length, map, drop, take, refl, ap, ◌∙◌, sym, arith, append_assoc, ⊎_elim}
use Rattle.std.specs.Prelude.{◌==◌, if◌then◌else◌, All, Option, Some, None}
use Rattle.std.proofs.lemmas.Bool.{both_ways, cond_both, eqb-true, eq-eqb, cases_lt}
use Rattle.std.proofs.lemmas.List.{length-map}
use Rattle.std.proofs.lemmas.List.Elements.{All-head, All-tail}
use Rattle.net_theory.specs.declared.data.Trigger.{Trigger}
use Rattle.net_theory.specs.Document.{Name, Latch, Document, latch_of, latch_output, latches_of, source_names}
use Rattle.net_theory.specs.Circuit.{Circuit, sources_of}
use Rattle.aiger_text.specs.declared.file.Reset.{Reset}
use Rattle.aiger_text.specs.declared.file.Reset.TheVariants as resets
use Rattle.aiger_text.specs.File.{AigFile}
use Rattle.aiger_text.specs.Naming.{gate_name, gate_names_from, name_at, variable_names, output_names}
use Rattle.aiger_text.specs.Meaning.{Signals, marks_of, turns_of, init_of, latch_line, document_by, document_of}
use Rattle.aiger_core.specs.Written.{even_from, mapped, reset_of, latches_from, file_by, file_of}
use Rattle.aiger_laws.specs.Writable.{HasReset, CanWriteAiger}
use Rattle.aiger_laws.proofs.WrittenNames.{circuit_names, names_are, names_read, input_names_are, latch_names_are, output_names_are}
use Rattle.aiger_laws.proofs.WrittenFile.{sink_literals, nexts_count, sources_size, literals_sizes}

abbrev pub circuit_file : Circuit → AigFile
circuit_file c = file_by c (mapped c.net) (sink_literals c)

-- the signals of the file, with the circuit's names
abbrev pub circuit_signals : Circuit → Signals
circuit_signals c = record { names = circuit_names c; marks = marks_of (circuit_file c); turns = turns_of (circuit_file c) }

abbrev pub circuit_document : Circuit → Document
circuit_document c = document_by (circuit_signals c) c.outputs (circuit_file c)

file_names : (c : Circuit) → CanWriteAiger c → variable_names (circuit_file c) ≡ circuit_names c
unfolding variable_names
file_names c is =
    let sizes = literals_sizes c is in
    names_are c _ _ (drop (length c.outputs) (sink_literals c)) (length (mapped c.net).gates)
    (input_names_are c (length (even_from 1 (length c.inputs))) (sym sizes.inputs))
    (latch_names_are c (length (circuit_file c).latches) (sym sizes.latches))
    (nexts_count c is) (sources_size c is)

file_outputs : (c : Circuit) → CanWriteAiger c → output_names (circuit_file c) ≡ c.outputs
file_outputs c is = output_names_are c (length (take (length c.outputs) (sink_literals c))) (sym (literals_sizes c is).outputs)

pub document_is : (c : Circuit) → CanWriteAiger c → document_of (file_of c) ≡ circuit_document c
unfolding document_of file_of
document_is c is =
    let f = circuit_file c in
    ap (λ (ns : List Name). document_by (record { names = ns; marks = marks_of f; turns = turns_of f }) (output_names f) f) (file_names c is)
    ∙ ap (λ (os : List Name). document_by (circuit_signals c) os (circuit_file c)) (file_outputs c is)

-- ---- inputs and latches

names_split : (c : Circuit) → circuit_names c ≡ gate_name 0 ∷ (c.inputs ++ (map latch_output c.latches ++ gate_names_from (c.net.sources + 1) (length (mapped c.net).gates)))
names_split c = ap (λ (ns : List Name). gate_name 0 ∷ ns) (append_assoc c.inputs (map latch_output c.latches) (gate_names_from (c.net.sources + 1) (length (mapped c.net).gates)))

pub document_inputs : (c : Circuit) → (circuit_document c).inputs ≡ c.inputs
document_inputs c =
    let gates = gate_names_from (c.net.sources + 1) (length (mapped c.net).gates) in
    ap (λ (ns : List Name). map (name_at ns) (even_from 1 (length c.inputs))) (names_split c)
    ∙ names_read (gate_name 0 ∷ []) c.inputs (map latch_output c.latches ++ gates) 1 refl

latches_named : (c : Circuit) → map (name_at (circuit_names c)) (even_from (1 + length c.inputs) (length c.latches)) ≡ map latch_output c.latches
latches_named c =
    let after : length (gate_name 0 ∷ c.inputs) ≡ 1 + length c.inputs = omega arith in
    let gates = gate_names_from (c.net.sources + 1) (length (mapped c.net).gates) in
    ap (λ (ns : List Name). map (name_at ns) (even_from (1 + length c.inputs) (length c.latches))) (names_split c)
    ∙ ap (λ (n : ℕ). map (name_at (gate_name 0 ∷ (c.inputs ++ (map latch_output c.latches ++ gates)))) (even_from (1 + length c.inputs) n)) (sym (length-map c.latches latch_output))
    ∙ names_read (gate_name 0 ∷ c.inputs) (map latch_output c.latches) gates (1 + length c.inputs) after

init_back : (i : ℕ) → i ≤ 2 → init_of (reset_of (Some i)) ≡ i
init_back i low =
    cond_both (i == 0) resets.Zero (if i == 1 then resets.One else resets.Undefined) (λ (r : Reset). init_of r ≡ i)
    (λ e. sym (eqb-true i 0 e))
    (λ e. cond_both (i == 1) resets.One resets.Undefined (λ (r : Reset). init_of r ≡ i)
    (λ f. sym (eqb-true i 1 f))
    (λ f. ⊎_elim
    (λ none. absurd (let zero_is : i ≡ 0 = omega (arith, none) in both_ways (i == 0) e (eq-eqb i 0 zero_is)))
    (λ some. ⊎_elim
    (λ one. absurd (let one_is : i ≡ 1 = omega (arith, one, some) in both_ways (i == 1) f (eq-eqb i 1 one_is)))
    (λ more. omega (arith, low, more))
    (cases_lt i 2))
    (cases_lt i 1)))

abbrev latch_with : Name → Option (Trigger × Name) → Option ℕ → Latch
latch_with n control init = record { output = n; control = control; init = init }

latch_back : (l : Latch) (name : Name) → HasReset l → name ≡ l.output → record { output = name; control = None; init = Some (init_of (reset_of l.init)) } ≡ l
latch_back l name is same =
    let init : Some (init_of (reset_of l.init)) ≡ l.init =
    ap (λ (o : Option ℕ). Some (init_of (reset_of o))) is.is ∙ ap (λ (k : ℕ). Some k) (init_back is.init is.low) ∙ sym is.is in
    ap (λ (n : Name). latch_with n None (Some (init_of (reset_of l.init)))) same
    ∙ ap (λ (k : Option (Trigger × Name)). latch_with l.output k (Some (init_of (reset_of l.init)))) (sym is.control)
    ∙ ap (λ (o : Option ℕ). latch_with l.output l.control o) init

lines_latches : (s : Signals) (node : ℕ) (ls : List Latch) (nexts : List ℕ) → length ls ≡ length nexts → All HasReset ls →
    map (name_at s.names) (even_from node (length ls)) ≡ map latch_output ls → map latch_of (map (latch_line s) (latches_from node ls nexts)) ≡ ls
unfolding latches_from even_from
lines_latches s node [] nexts count all names = refl
lines_latches s node (l ∷ ls) [] count all names = absurd (omega (arith, count))
lines_latches s node (l ∷ ls) (n ∷ ns) count all names =
    let first : name_at s.names (node * 2) ≡ l.output = cc in
    let later : map (name_at s.names) (even_from (node + 1) (length ls)) ≡ map latch_output ls = cc in
    ap (λ (x : Latch). x ∷ map latch_of (map (latch_line s) (latches_from (node + 1) ls ns))) (latch_back l (name_at s.names (node * 2)) (All-head HasReset l ls all) first)
    ∙ ap (λ (xs : List Latch). l ∷ xs) (lines_latches s (node + 1) ls ns (omega (arith, count)) (All-tail HasReset l ls all) later)

pub document_latches : (c : Circuit) → CanWriteAiger c → latches_of (circuit_document c) ≡ c.latches
document_latches c is = lines_latches (circuit_signals c) (1 + length c.inputs) c.latches (drop (length c.outputs) (sink_literals c)) (nexts_count c is) is.latches (latches_named c)

pub document_sources : (c : Circuit) → CanWriteAiger c → source_names (circuit_document c) ≡ sources_of c
document_sources c is =
    ap (λ (ns : List Name). ns ++ map latch_output (latches_of (circuit_document c))) (document_inputs c)
    ∙ ap (λ (ls : List Latch). c.inputs ++ map latch_output ls) (document_latches c is)
