-- Generated netlists are well formed and are read back.
use Rattle.std.specs.Prelude.{◌≡◌, ℕ, ◌^◌, ◌≤◌, ◌<◌, true, List, [], map, All, codes, refl}
use Rattle.std.specs.List.{flat_map}
use Rattle.std.proofs.Common.{arith, sym, subst, ⊎_elim, append-nil}
use Rattle.std.proofs.lemmas.List.Elements.{All-nil}
use Rattle.net_theory.specs.Document.{Name, IsName, is_name, has, are_distinct, Table, LatchLine, Document, table_output, table_inputs, source_names, sink_names, driven_names, used_names}
use Rattle.net_theory.specs.NameLaws.{has_none, has_cases, has_right, has_either, has_all}
use Rattle.net_theory.specs.WellFormed.{IsTable, IsLatchLine, IsFreeOf, IsWellFormed}
use Rattle.net_theory.specs.Cost.{cost}
use Rattle.net_document.specs.Listed.{AreControlsFree}
use Rattle.net_document.specs.Format.{IsReadBack, IsNetlist}
use Rattle.blif_core.specs.Spelling.{spelled}
use Rattle.blif_core.specs.Blif.{blif_format}
use Rattle.blif_laws.specs.Spelled.{IsSpelledTable, IsBlifSpelling}
use Rattle.blif_laws.specs.Layers.{AreLayered, layered_distinct, layered_inputs, layered_acyclic}
use Rattle.gen_core.specs.Generated.{name_of, block_inputs, block_outputs, block_tables, of_blocks, generated, generated_text}
use Rattle.gen_core.proofs.BlockLaws.{of_all, of_length, of_has, of_found}
use Rattle.gen_core.proofs.Inputs.{names_are, inputs_names, inputs_differ}
use Rattle.gen_core.proofs.Tables.{all_layered, all_spelled, block_few, all_narrow, tables_cheap, output_driven}
use Rattle.net_theory.specs.Limits.{default_gates}
use Rattle.settings.specs.Limits.{most_blocks}

outputs_names : (n : ℕ) → n ≤ 2 ^ 64 → All IsName (of_blocks block_outputs n)
outputs_names n low = of_all IsName block_outputs n (λ k below. names_are k (codes "y") (omega (arith, low, below)) refl)

-- the document by its parts
abbrev inputs_of : ℕ → List Name
inputs_of n = of_blocks block_inputs n

abbrev outputs_of : ℕ → List Name
outputs_of n = of_blocks block_outputs n

abbrev tables_of : ℕ → List Table
tables_of n = of_blocks block_tables n

gen_name : is_name (codes "gen") ≡ true
unfolding is_name
gen_name = refl

gen_is : IsName (codes "gen")
gen_is = record { spelled = gen_name; short = omega arith }

sources_are : (n : ℕ) → source_names (generated n) ≡ inputs_of n
unfolding generated
sources_are n = append-nil (inputs_of n)

sinks_are : (n : ℕ) → sink_names (generated n) ≡ outputs_of n
unfolding generated
sinks_are n = append-nil (outputs_of n)

tables_are : (n : ℕ) → (generated n).tables ≡ tables_of n
unfolding generated
tables_are n = refl

layers : (n : ℕ) → n < 2 ^ 64 → AreLayered (source_names (generated n)) (generated n).tables
unfolding generated
layers n low = subst (λ (ns : List Name). AreLayered ns (tables_of n)) (sym (append-nil (inputs_of n))) (all_layered n n low (omega arith)).layers

sources_differ : (n : ℕ) → n < 2 ^ 64 → are_distinct (source_names (generated n)) ≡ true
sources_differ n low = subst (λ (ns : List Name). are_distinct ns ≡ true) (sym (sources_are n)) (inputs_differ n (omega (arith, low)))

-- ---- every used name is driven

output_is : (n : ℕ) (m : Name) → has (outputs_of n) m ≡ true → has (map table_output (tables_of n)) m ≡ true
output_is n m there =
    let found = of_found block_outputs n m there in
    ⊎_elim
    (λ here. of_has table_output block_tables n found.0 m found.1 (subst (λ (x : Name). has (map table_output (block_tables found.0)) x ≡ true) (sym here) (output_driven found.0)))
    (λ none. absurd (has_none m none))
    (has_cases (name_of found.0 121) [] m found.2)

used_is : (n : ℕ) (m : Name) → n < 2 ^ 64 → has (used_names (generated n)) m ≡ true → has (driven_names (generated n)) m ≡ true
used_is n m low there =
    ⊎_elim
    (λ read. layered_inputs (source_names (generated n)) (generated n).tables m (layers n low) read)
    (λ sink. has_right (source_names (generated n)) (map table_output (generated n).tables) m
    (subst (λ (ts : List Table). has (map table_output ts) m ≡ true) (sym (tables_are n)) (output_is n m (subst (λ (ns : List Name). has ns m ≡ true) (sinks_are n) sink))))
    (has_either (flat_map table_inputs (generated n).tables) (sink_names (generated n)) m there)

-- ---- the document

cost_low : (n : ℕ) → n ≤ most_blocks → cost (generated n) ≤ default_gates
unfolding cost generated
cost_low n few = omega (arith, tables_cheap (tables_of n) (all_narrow n (omega (arith, few))), of_length block_tables 4 n block_few, few)

spelled_is : (n : ℕ) → n < 2 ^ 64 → IsBlifSpelling (generated n)
unfolding generated
spelled_is n low = record {
  model = gen_is;
  inputs = inputs_names n (omega (arith, low));
  outputs = outputs_names n (omega (arith, low));
  clocks = All-nil IsName;
  latches = All-nil IsLatchLine;
  tables = all_spelled n (omega (arith, low));
}

all_tables : (ts : List Table) → All IsSpelledTable ts → All IsTable ts
all_tables ts all = λ i d low. (all i d low).table

free_is : (n : ℕ) → AreControlsFree (generated n)
unfolding generated
free_is n = All-nil (λ (l : LatchLine). IsFreeOf (map table_output (tables_of n)) l.latch.control)

well_is : (n : ℕ) → n ≤ most_blocks → IsWellFormed (generated n)
well_is n few =
    let low : n < 2 ^ 64 = omega (arith, few) in
    let is = spelled_is n low in
    record {
      model = is.model;
      inputs = is.inputs;
      outputs = is.outputs;
      clocks = is.clocks;
      latches = is.latches;
      tables = all_tables (generated n).tables is.tables;
      controls = free_is n;
      gates = omega (arith, cost_low n few);
      driven_once = layered_distinct (source_names (generated n)) (generated n).tables (sources_differ n low) (layers n low);
      used_driven = has_all (λ (m : Name). has (driven_names (generated n)) m ≡ true) (used_names (generated n)) (λ m there. used_is n m low there);
      acyclic = layered_acyclic (generated n) (sources_differ n low) (layers n low);
    }

pub is_netlist : ((d : Document) → IsBlifSpelling d → AreControlsFree d → IsReadBack blif_format (spelled d) d) → (n : ℕ) → n ≤ most_blocks → IsNetlist blif_format (generated_text n)
is_netlist read n few =
    let back = read (generated n) (spelled_is n (omega (arith, few))) (free_is n) in
    record {
      listed = back.listed;
      said = back.said;
      within = subst (λ (d : Document). cost d ≤ default_gates) (sym back.document) (cost_low n few);
      well = subst IsWellFormed (sym back.document) (well_is n few);
    }
