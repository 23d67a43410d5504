-- The text of a circuit that can be written lists a well-formed document that describes the circuit.
use Rattle.std.proofs.Common.{◌≡◌, ℕ, suc, ◌+◌, ◌≤◌, true, List, [], ◌∷◌, ◌++◌, length, map, drop, take, refl, ap, ◌∙◌, sym, subst, arith, ⊎_elim}
use Rattle.std.specs.Prelude.{All, slice_get, Some, Result, Ok}
use Rattle.std.specs.List.{flat_map}
use Rattle.std.proofs.lemmas.List.{map-append}
use Rattle.std.proofs.lemmas.List.Elements.{All-nil, All-cons}
use Rattle.net_theory.specs.Document.{Name, IsName, has, are_distinct, Latch, Table, Document, table_output, table_inputs, latch_input, source_names, driven_names, used_names}
use Rattle.net_theory.specs.NameLaws.{all_has, has_all, has_either, has_left, has_right}
use Rattle.net_theory.specs.WellFormed.{IsTable, IsLatchLine, IsWellFormed}
use Rattle.net_theory.specs.Cost.{cost}
use Rattle.net_theory.specs.Circuit.{Circuit, sources_of, Describes}
use Rattle.net_core.specs.declared.error.NetError.{NetError}
use Rattle.net_document.specs.Listed.{Listed, AreControlsFree}
use Rattle.net_document.specs.Format.{IsTextOf}
use Rattle.net_document.specs.FormatLaws.{fault_none}
use Rattle.aiger_text.specs.File.{AigFile}
use Rattle.aiger_text.specs.Valid.{IsAig}
use Rattle.aiger_text.specs.Reading.{◌>>=◌}
use Rattle.aiger_text.specs.ListingLaws.{listed_is, listed_free}
use Rattle.aiger_text.specs.Meaning.{Signals, sink_name, latch_line, document_of, listed_with}
use Rattle.aiger_text.specs.Spelling.{spelled}
use Rattle.aiger_text.specs.Statements as statements
use Rattle.aiger_core.specs.Aiger.{aiger_format}
use Rattle.aiger_core.specs.Written.{latches_from, file_of}
use Rattle.aiger_laws.specs.Writable.{CanWriteAiger}
use Rattle.aiger_laws.proofs.WrittenFile.{sink_literals, literals_sizes, written_aig}
use Rattle.aiger_laws.proofs.WrittenDocument.{circuit_signals, circuit_document, document_is, document_sources}
use Rattle.aiger_laws.proofs.WrittenLayers.{outputs_driven}
use Rattle.aiger_laws.proofs.WrittenWell.{constants, gate_part, not_part, output_part, all_tables, before_outputs, names_after, nots_after, driver_source, sink_had, tables_layered}
use Rattle.aiger_laws.proofs.WrittenDescribes.{tables_are, next_low, next_marked, circuit_describes}
use Rattle.aiger_laws.proofs.WrittenCost.{circuit_cost}
use Rattle.blif_laws.specs.Layers.{AreLayered, layered_distinct, layered_inputs, layered_acyclic}

layered : (c : Circuit) → CanWriteAiger c → AreLayered (source_names (circuit_document c)) (circuit_document c).tables
layered c is = subst (λ (ns : List Name). AreLayered ns (circuit_document c).tables) (sym (document_sources c is)) (subst (AreLayered (sources_of c)) (sym (tables_are c)) (tables_layered c is))

-- ---- each used name is driven

abbrev driven : Circuit → List Name
driven c = sources_of c ++ map table_output (all_tables c)

before_driven : (c : Circuit) (n : Name) → has (before_outputs c) n ≡ true → has (driven c) n ≡ true
before_driven c n there =
    let most = constants ++ gate_part c ++ not_part c in
    subst (λ (ns : List Name). has ns n ≡ true) (sym (names_after (sources_of c) most (output_part c)))
    (has_left (sources_of c ++ map table_output most) (map table_output (output_part c)) n (subst (λ (ns : List Name). has ns n ≡ true) (sym (nots_after c)) there))

output_driven : (c : Circuit) (n : Name) → CanWriteAiger c → has c.outputs n ≡ true → has (driven c) n ≡ true
output_driven c n is there =
    let most = constants ++ gate_part c ++ not_part c in
    ⊎_elim
    (λ source. has_left (sources_of c) (map table_output (all_tables c)) n source)
    (λ table. has_right (sources_of c) (map table_output (all_tables c)) n
    (subst (λ (ns : List Name). has ns n ≡ true) (sym (map-append table_output most (output_part c))) (has_right (map table_output most) (map table_output (output_part c)) n table)))
    (outputs_driven (circuit_signals c) (sources_of c) (take (length c.outputs) (sink_literals c)) c.outputs n (literals_sizes c is).outputs
    (λ i lit o at_lit at_o drives. driver_source c i lit o is at_lit at_o drives) there)

-- what holds of the names of next states holds of all inputs of latches
lines_all : (P : Name → Type 0) (s : Signals) (node : ℕ) (ls : List Latch) (nexts : List ℕ) → ((i lit : ℕ) → slice_get nexts i ≡ Some lit → P (sink_name s lit)) →
    All P (map latch_input (map (latch_line s) (latches_from node ls nexts)))
unfolding latches_from
lines_all P s node [] nexts each = All-nil P
lines_all P s node (l ∷ ls) [] each = All-nil P
lines_all P s node (l ∷ ls) (n ∷ ns) each =
    All-cons P (sink_name s n) (map latch_input (map (latch_line s) (latches_from (node + 1) ls ns))) (each 0 n refl)
    (lines_all P s (node + 1) ls ns (λ i lit at. each (suc i) lit at))

abbrev lines : Circuit → List Name
lines c = map latch_input (circuit_document c).latches

next_driven : (c : Circuit) (n : Name) → CanWriteAiger c → has (lines c) n ≡ true → has (driven c) n ≡ true
next_driven c n is there =
    let P : Name → Type 0 = λ m. has (driven c) m ≡ true in
    all_has P (lines c) n
    (lines_all P (circuit_signals c) (1 + length c.inputs) c.latches (drop (length c.outputs) (sink_literals c))
    (λ i lit at. before_driven c (sink_name (circuit_signals c) lit) (sink_had c lit is (next_low c i lit is at) (next_marked c i lit is at)))) there

used_driven : (c : Circuit) (n : Name) → CanWriteAiger c → has (flat_map table_inputs (all_tables c) ++ (c.outputs ++ lines c)) n ≡ true → has (driven c) n ≡ true
used_driven c n is used =
    ⊎_elim
    (λ read. layered_inputs (sources_of c) (all_tables c) n (tables_layered c is) read)
    (λ sink. ⊎_elim (λ output. output_driven c n is output) (λ next. next_driven c n is next) (has_either c.outputs (lines c) n sink))
    (has_either (flat_map table_inputs (all_tables c)) (c.outputs ++ lines c) n used)

driven_is : (c : Circuit) → CanWriteAiger c → driven_names (circuit_document c) ≡ driven c
driven_is c is =
    ap (λ (ns : List Name). ns ++ map table_output (circuit_document c).tables) (document_sources c is)
    ∙ ap (λ (ts : List Table). sources_of c ++ map table_output ts) (tables_are c)

used_is : (c : Circuit) → used_names (circuit_document c) ≡ flat_map table_inputs (all_tables c) ++ (c.outputs ++ lines c)
used_is c = ap (λ (ts : List Table). flat_map table_inputs ts ++ (c.outputs ++ lines c)) (tables_are c)

-- ---- the document

pub listed_document : (d : Document) → (listed_with d).document ≡ d
unfolding listed_with
listed_document d = refl

document_listed : (c : Circuit) → CanWriteAiger c → (listed_with (document_of (file_of c))).document ≡ circuit_document c
document_listed c is = listed_document (document_of (file_of c)) ∙ document_is c is

circuit_well : (c : Circuit) → CanWriteAiger c → IsWellFormed (circuit_document c)
circuit_well c is =
    let d = circuit_document c in
    let same = document_listed c is in
    let within = listed_is (file_of c) (written_aig c is) in
    let distinct : are_distinct (source_names d) ≡ true = subst (λ (ns : List Name). are_distinct ns ≡ true) (sym (document_sources c is)) is.proper.distinct in
    record {
      model = subst (λ (x : Document). IsName x.model) same within.model;
      inputs = subst (λ (x : Document). All IsName x.inputs) same within.inputs;
      outputs = subst (λ (x : Document). All IsName x.outputs) same within.outputs;
      clocks = subst (λ (x : Document). All IsName x.clocks) same within.clocks;
      latches = subst (λ (x : Document). All IsLatchLine x.latches) same within.latches;
      tables = subst (λ (x : Document). All IsTable x.tables) same within.tables;
      controls = subst AreControlsFree same (listed_free (file_of c));
      gates = omega (arith, circuit_cost c is, is.proper.gates);
      driven_once = layered_distinct (source_names d) d.tables distinct (layered c is);
      used_driven = has_all (λ n. has (driven_names d) n ≡ true) (used_names d) (λ n used.
          subst (λ (ns : List Name). has ns n ≡ true) (sym (driven_is c is)) (used_driven c n is (subst (λ (ns : List Name). has ns n ≡ true) (used_is c) used)));
      acyclic = layered_acyclic d distinct (layered c is);
    }

-- ---- the text

abbrev pub list_in : Result AigFile NetError → Result Listed NetError
list_in r = r >>= λ f. Ok (listed_with (document_of f))

-- each file is read back from its text
abbrev pub AreReadBack : Type 0
AreReadBack = (f : AigFile) → IsAig f → statements.file_of (spelled f) ≡ Ok f

pub text_is : AreReadBack → (c : Circuit) → CanWriteAiger c → IsTextOf aiger_format (spelled (file_of c)) c
text_is back c is =
    let f = file_of c in
    let aig = written_aig c is in
    let same = document_listed c is in
    let well : IsWellFormed (listed_with (document_of f)).document = subst IsWellFormed (sym same) (circuit_well c is) in
    let cheap : cost (listed_with (document_of f)).document ≤ length c.net.gates =
    subst (λ (x : Document). cost x ≤ length c.net.gates) (sym same) (circuit_cost c is) in
    record {
      listed = listed_with (document_of f);
      said = ap list_in (back f aig);
      document = listed_document (document_of f);
      good = fault_none (length c.net.gates) (listed_with (document_of f)) (listed_is f aig) well cheap;
      well = well;
      model = ap (λ (x : Document). x.model) same ∙ sym is.model;
      describes = subst (λ (x : Document). Describes x c) (sym same) (circuit_describes c is);
      cheap = cheap;
    }
