-- A document of gates is read back from its text.
use Rattle.std.proofs.Common.{◌≡◌, ℕ, ◌+◌, List, [], ◌∷◌, ◌++◌, map, refl, ap, ◌∙◌, sym, append_assoc, append-nil}
use Rattle.std.specs.Prelude.{All, Ok, codes}
use Rattle.std.specs.List.{flat_map}
use Rattle.std.proofs.lemmas.List.Elements.{All-head, All-tail}
use Rattle.text_core.specs.Lines.{lines_of, lines_from}
use Rattle.net_theory.specs.Document.{Name, Table, LatchLine, Document}
use Rattle.net_document.specs.Listed.{Listed}
use Rattle.net_document.specs.Format.{IsReadBack}
use Rattle.bench_text.specs.Statements.{nothing, with_input, with_output, with_latch, with_table, steps, listed_of}
use Rattle.bench_text.specs.SaidLaws.{IsPlainName, IsPlainLatch}
use Rattle.bench_text.specs.ListingLaws.{texts_list}
use Rattle.bench_core.specs.Gates.{line_of, line_table, as_gates}
use Rattle.bench_core.specs.Spelling.{port_text, latch_text, table_text, spelled}
use Rattle.bench_core.specs.Bench.{bench_format}
use Rattle.bench_laws.specs.Spelled.{IsPlainLine, IsBenchSpelling}
use Rattle.bench_laws.proofs.LineKinds.{input_read, output_read, latch_read, gate_read}

-- ---- lists of lines

-- the document after all elements of a list are added
abbrev pub all_said : {X : Type 0} → (Listed → X → Listed) → Listed → List X → Listed
all_said add s [] = s
all_said add s (x ∷ xs) = all_said add (add s x) xs

-- each element has a line that adds it
abbrev AreSaid : {X : Type 0} → (X → List ℕ) → (Listed → X → Listed) → (X → Type 0) → Type 0
AreSaid {X} text add P = (line : ℕ) (s : Listed) (x : X) (rest : List ℕ) → P x → steps line s (lines_of (text x ++ rest)) ≡ steps (line + 1) (add s x) (lines_of rest)

lines_read : {X : Type 0} (text : X → List ℕ) (add : Listed → X → Listed) (P : X →
    Type 0) (line : ℕ) (s : Listed) (xs : List X) (rest : List ℕ) → AreSaid text add P → All P xs → (m : ℕ) ×
    (steps line s (lines_of (flat_map text xs ++ rest)) ≡ steps m (all_said add s xs) (lines_of rest))
lines_read text add P line s [] rest said all = (line, refl)
lines_read text add P line s (x ∷ xs) rest said all =
    let on = lines_read text add P (line + 1) (add s x) xs rest said (All-tail P x xs all) in (
      on.0,
      ap (λ (ts : List ℕ). steps line s (lines_of ts)) (append_assoc (text x) (flat_map text xs) rest)
          ∙ said line s x (flat_map text xs ++ rest) (All-head P x xs all)
          ∙ on.1,
    )

-- ---- documents

abbrev add_inputs : Document → List Name → Document
add_inputs d ns = record { model = d.model; inputs = d.inputs ++ ns; outputs = d.outputs; clocks = d.clocks; latches = d.latches; tables = d.tables }

abbrev add_outputs : Document → List Name → Document
add_outputs d ns = record { model = d.model; inputs = d.inputs; outputs = d.outputs ++ ns; clocks = d.clocks; latches = d.latches; tables = d.tables }

abbrev add_latches : Document → List LatchLine → Document
add_latches d ls = record { model = d.model; inputs = d.inputs; outputs = d.outputs; clocks = d.clocks; latches = d.latches ++ ls; tables = d.tables }

abbrev add_tables : Document → List Table → Document
add_tables d ts = record { model = d.model; inputs = d.inputs; outputs = d.outputs; clocks = d.clocks; latches = d.latches; tables = d.tables ++ ts }

inputs_said : (s : Listed) (ns : List Name) → (all_said with_input s ns).document ≡ add_inputs s.document ns
inputs_said s [] = ap (λ (xs : List Name). record {
  model = s.document.model;
  inputs = xs;
  outputs = s.document.outputs;
  clocks = s.document.clocks;
  latches = s.document.latches;
  tables =
      s.document.tables;
}) (sym (append-nil s.document.inputs))
inputs_said s (n ∷ ns) = inputs_said (with_input s n) ns
    ∙ ap (λ (xs : List Name). record {
      model = s.document.model;
      inputs = xs;
      outputs = s.document.outputs;
      clocks = s.document.clocks;
      latches = s.document.latches;
      tables =
          s.document.tables;
    }) (append_assoc s.document.inputs (n ∷ []) ns)

outputs_said : (s : Listed) (ns : List Name) → (all_said with_output s ns).document ≡ add_outputs s.document ns
outputs_said s [] = ap (λ (xs : List Name). record {
  model = s.document.model;
  inputs = s.document.inputs;
  outputs = xs;
  clocks = s.document.clocks;
  latches = s.document.latches;
  tables =
      s.document.tables;
}) (sym (append-nil s.document.outputs))
outputs_said s (n ∷ ns) = outputs_said (with_output s n) ns
    ∙ ap (λ (xs : List Name). record {
      model = s.document.model;
      inputs = s.document.inputs;
      outputs = xs;
      clocks = s.document.clocks;
      latches = s.document.latches;
      tables =
          s.document.tables;
    }) (append_assoc s.document.outputs (n ∷ []) ns)

latches_said : (s : Listed) (ls : List LatchLine) → (all_said with_latch s ls).document ≡ add_latches s.document ls
latches_said s [] = ap (λ (xs : List LatchLine). record {
  model = s.document.model;
  inputs = s.document.inputs;
  outputs = s.document.outputs;
  clocks = s.document.clocks;
  latches = xs;
  tables =
      s.document.tables;
}) (sym (append-nil s.document.latches))
latches_said s (l ∷ ls) = latches_said (with_latch s l) ls
    ∙ ap (λ (xs : List LatchLine). record {
      model = s.document.model;
      inputs = s.document.inputs;
      outputs = s.document.outputs;
      clocks = s.document.clocks;
      latches = xs;
      tables =
          s.document.tables;
    }) (append_assoc s.document.latches (l ∷ []) ls)

abbrev with_gate : Name → Listed → Table → Listed
with_gate source s t = with_table s (line_table (line_of source t))

tables_said : (source : Name) (s : Listed) (ts : List Table) → (all_said (with_gate source) s ts).document ≡ add_tables s.document (map (λ t. line_table (line_of source t)) ts)
tables_said source s [] = ap (λ (xs : List Table). record {
  model = s.document.model;
  inputs = s.document.inputs;
  outputs = s.document.outputs;
  clocks = s.document.clocks;
  latches = s.document.latches;
  tables =
      xs;
}) (sym (append-nil s.document.tables))
tables_said source s (t ∷ ts) = tables_said source (with_gate source s t) ts
    ∙ ap (λ (xs : List Table). record {
      model = s.document.model;
      inputs = s.document.inputs;
      outputs = s.document.outputs;
      clocks = s.document.clocks;
      latches = s.document.latches;
      tables =
          xs;
    }) (append_assoc s.document.tables (line_table (line_of source t) ∷ [])
    (map (λ t. line_table (line_of source t)) ts))

-- ---- the text

no_lines : lines_of [] ≡ []
unfolding lines_from
no_lines = refl

no_steps : (line : ℕ) (s : Listed) → steps line s [] ≡ Ok s
unfolding steps
no_steps line s = refl

abbrev last_said : Name → Document → Listed
last_said source d = all_said (with_gate source) (all_said with_latch (all_said with_output (all_said with_input nothing d.inputs) d.outputs) d.latches) d.tables

abbrev gate_tables : Name → Document → List Table
gate_tables source d = map (λ t. line_table (line_of source t)) d.tables

said_document : (source : Name) (d : Document) → IsBenchSpelling source d → (last_said source d).document ≡ as_gates source d
said_document source d is =
    let a = all_said with_input nothing d.inputs in
    let b = all_said with_output a d.outputs in
    let c = all_said with_latch b d.latches in
    tables_said source c d.tables
    ∙ ap (λ (x : Document). add_tables x (gate_tables source d)) (latches_said b d.latches
    ∙ ap (λ (x : Document). add_latches x d.latches) (outputs_said a d.outputs
    ∙ ap (λ (x : Document). add_outputs x d.outputs) (inputs_said nothing d.inputs)))
    ∙ named where
      named : record { model = codes "top"; inputs = d.inputs; outputs = d.outputs; clocks = []; latches = d.latches; tables = gate_tables source d } ≡ as_gates source d
      named = λ i. record { model = sym is.model i; inputs = d.inputs; outputs = d.outputs; clocks = sym is.clocks i; latches = d.latches; tables = gate_tables source d }

text_shape : (a b c d : List ℕ) → ((a ++ b) ++ c) ++ d ≡ a ++ (b ++ (c ++ (d ++ [])))
text_shape a b c d =
    append_assoc (a ++ b) c d
    ∙ append_assoc a b (c ++ d)
    ∙ ap (λ (x : List ℕ). a ++ (b ++ (c ++ x))) (sym (append-nil d))

said_all : (source : Name) (d : Document) → IsBenchSpelling source d → listed_of (spelled source d) ≡ Ok (last_said source d)
unfolding listed_of spelled
said_all source d is =
    let ins = flat_map (port_text (codes "INPUT(")) d.inputs in
    let outs = flat_map (port_text (codes "OUTPUT(")) d.outputs in
    let dffs = flat_map latch_text d.latches in
    let gates = flat_map (table_text source) d.tables in
    let a = all_said with_input nothing d.inputs in
    let b = all_said with_output a d.outputs in
    let c = all_said with_latch b d.latches in
    let first = lines_read (port_text (codes "INPUT(")) with_input IsPlainName 1 nothing d.inputs (outs ++ (dffs ++ (gates ++ []))) (λ line s n rest plain. input_read line s n rest plain) is.inputs in
    let second = lines_read (port_text (codes "OUTPUT(")) with_output IsPlainName first.0 a d.outputs (dffs ++ (gates ++ [])) (λ line s n rest plain. output_read line s n rest plain) is.outputs in
    let third = lines_read latch_text with_latch IsPlainLatch second.0 b d.latches (gates ++ []) (λ line s l rest plain. latch_read line s l rest plain) is.latches in
    let fourth = lines_read (table_text source) (with_gate source) (λ (t : Table).
    IsPlainLine (line_of source t)) third.0 c d.tables [] (λ line s t rest plain.
    gate_read line s (line_of source t) rest plain) is.tables in
    ap (λ (x : List ℕ). steps 1 nothing (lines_of x)) (text_shape ins outs dffs gates)
    ∙ first.1
    ∙ second.1
    ∙ third.1
    ∙ fourth.1
    ∙ ap (steps fourth.0 (last_said source d)) no_lines
    ∙ no_steps fourth.0 (last_said source d)

pub read_back : (source : Name) (d : Document) → IsBenchSpelling source d → IsReadBack bench_format (spelled source d) (as_gates source d)
read_back source d is = record {
  listed = last_said source d;
  said = said_all source d is;
  document = said_document source d is;
  is = texts_list (spelled source d) (last_said source d) (said_all source d is);
}
